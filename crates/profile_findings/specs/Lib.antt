pub mod Fuse
pub mod Hidden
pub mod NeverRated
