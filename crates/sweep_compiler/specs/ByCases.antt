pub mod Verdict
pub mod Curve
pub mod Seen
pub mod Running
pub mod Queue
pub mod Swept
pub mod Agree
