pub mod ExitStatus
pub mod SiteStop
