-- Lemmas that crates above cite: nothing here has to be believed.
pub mod Next
pub mod Rates
pub mod Places
