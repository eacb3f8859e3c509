pub mod Limits
pub mod Start
pub mod Duration
