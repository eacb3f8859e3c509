pub mod Line
pub mod Restore
pub mod LostLinks
