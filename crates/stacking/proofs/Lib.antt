pub mod RowLemmas
pub mod CandidateLemmas
pub mod PlaceLemmas
pub mod LevelLemmas
