-- Definitions by cases, with which proofs compute.
pub mod FieldValue
pub mod ObjectText
