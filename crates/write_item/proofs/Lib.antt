pub mod Puts
pub mod Counting
