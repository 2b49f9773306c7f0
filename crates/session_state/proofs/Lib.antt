pub mod Slots
pub mod Runs
pub mod States
pub mod Answers
