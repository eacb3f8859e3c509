pub mod Periods
pub mod Parts
pub mod Same
