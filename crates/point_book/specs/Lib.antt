pub mod Book
pub mod Changes
