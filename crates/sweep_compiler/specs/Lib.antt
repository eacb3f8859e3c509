pub mod Places
pub mod Right
pub mod Compiled
pub mod Explained
pub mod Agree
pub mod Verdict
pub mod Judged
pub mod ByCases
