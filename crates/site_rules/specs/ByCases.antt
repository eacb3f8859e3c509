-- Forms by cases, with which proofs compute.
pub mod SiteReading
pub mod Parts
pub mod HasTree
