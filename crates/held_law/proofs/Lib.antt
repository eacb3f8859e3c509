pub mod HeldLemmas
mod WorkedExample
