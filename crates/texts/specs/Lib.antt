pub mod SentText
pub mod ByCases
pub mod Number
pub mod Unread
pub mod Asked
pub mod Response
pub mod Said
pub mod Theory
