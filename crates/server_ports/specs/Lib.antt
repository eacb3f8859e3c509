pub mod PathRole
