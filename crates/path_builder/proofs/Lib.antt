pub mod Building
pub mod Counting
