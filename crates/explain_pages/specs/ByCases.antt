-- Definitions of private clauses, by cases: no reader has to trust them.
pub mod Throughout
