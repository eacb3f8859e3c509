pub mod Workers
pub mod Wait
pub mod Work
pub mod Unsent
