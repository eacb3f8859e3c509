-- Lemmas that crates above cite: nothing here has to be believed.
pub mod Ranges
pub mod Greatest
pub mod ExactPeriods
pub mod ExactAnswers
pub mod SaidSchedules
pub mod PlainCompiler
pub mod Reasons
