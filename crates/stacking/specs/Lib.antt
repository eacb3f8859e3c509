pub mod Limits
pub mod Rows
pub mod Candidates
pub mod InForce
pub mod ByCases
