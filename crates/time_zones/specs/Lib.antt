pub mod ZoneName
