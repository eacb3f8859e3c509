pub mod Limits
pub mod Site
pub mod Admission
pub mod SiteFile
pub mod SiteFaults
pub mod ByCases
