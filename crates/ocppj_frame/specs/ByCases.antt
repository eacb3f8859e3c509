-- Definitions by cases, with which proofs compute.
pub mod Mark
pub mod Member
pub mod Message
pub mod Tokens
