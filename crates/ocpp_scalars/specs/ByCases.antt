-- Definitions by cases, with which proofs compute. Each file names the law that ties it to its
-- meaning.
pub mod Bounds
pub mod Digits
pub mod InstantText
pub mod Number
pub mod NumberText
