pub mod Contents
pub mod History
pub mod Lines
pub mod AppendedFile
pub mod Log
pub mod Writing
pub mod Recorded
