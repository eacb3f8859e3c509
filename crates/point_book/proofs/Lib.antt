pub mod BookLemmas
pub mod InstallCauses
