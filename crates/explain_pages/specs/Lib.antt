pub mod ByCases
pub mod Limits
pub mod NotCounted
