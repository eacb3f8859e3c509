pub mod DurationLemmas
