pub mod Asked
pub mod Calls
pub mod Found
pub mod Health
pub mod Unsure
pub mod News
