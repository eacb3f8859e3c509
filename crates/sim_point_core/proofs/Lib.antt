pub mod TextPieces
pub mod RunningLemmas
pub mod StateLemmas
pub mod StepLemmas
