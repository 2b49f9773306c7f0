pub mod Lookup
pub mod Finding
