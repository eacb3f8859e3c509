pub mod Candidates
pub mod InForce
