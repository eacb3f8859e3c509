pub mod Form
pub mod Held
pub mod Input
pub mod MachineSteps
pub mod Player
pub mod Asked
pub mod Quiet
