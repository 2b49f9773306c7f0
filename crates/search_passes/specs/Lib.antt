pub mod Limit
pub mod Finds
pub mod Passes
