pub mod Taking
pub mod Pushing
