pub mod GreatestLemmas
pub mod PartLemmas
pub mod PeriodLemmas
pub mod ProfileLemmas
