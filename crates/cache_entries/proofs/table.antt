pub mod Rows
pub mod Chain
pub mod Single
