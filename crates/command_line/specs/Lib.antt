pub mod CommandLine
pub mod CommandRows
