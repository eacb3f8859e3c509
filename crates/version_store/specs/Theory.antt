-- Lemmas that crates above cite: nothing here has to be believed.
pub mod Forgetting
