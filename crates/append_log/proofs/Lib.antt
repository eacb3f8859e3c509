mod Moments
mod Writes
mod Lines
mod Cuts
