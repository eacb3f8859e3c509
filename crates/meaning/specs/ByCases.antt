pub mod Exact
pub mod Ask
pub mod Said
pub mod PlainCompiler
pub mod Cause
pub mod WhyNot
