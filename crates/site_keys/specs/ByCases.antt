pub mod Key
pub mod KeyFile
pub mod Credentials
pub mod Admission
