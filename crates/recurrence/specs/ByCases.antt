-- Definitions by cases, which proofs compute with.
pub mod Next
pub mod Sooner
pub mod Places
pub mod Occurrence
