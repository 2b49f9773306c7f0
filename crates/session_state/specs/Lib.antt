pub mod Records
pub mod Errors
pub mod Moves
pub mod Stored
pub mod Questions
pub mod State
pub mod Steps
