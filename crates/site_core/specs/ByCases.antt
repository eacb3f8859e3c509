pub mod Requests
pub mod Made
