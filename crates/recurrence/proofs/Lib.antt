pub mod NextLemmas
pub mod StartLemmas
pub mod PlaceLemmas
pub mod OccurrenceLemmas
