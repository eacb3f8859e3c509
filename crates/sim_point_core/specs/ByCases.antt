-- Forms by cases, with which proofs compute.
pub mod ActiveTransaction
pub mod Steps
