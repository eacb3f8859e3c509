pub mod Request
pub mod Answer
pub mod PointCall
pub mod RemoteStart
pub mod CallText
pub mod SimPoint
pub mod ByCases
