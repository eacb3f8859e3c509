pub mod NextChange
pub mod Places
pub mod ByCases
pub mod Theory
