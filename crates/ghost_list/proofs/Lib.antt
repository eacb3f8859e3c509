pub mod Codes
pub mod Lent
pub mod Steps
pub mod Tokens
