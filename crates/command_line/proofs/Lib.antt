pub mod CommandLineLemmas
pub mod CommandRowsLemmas
