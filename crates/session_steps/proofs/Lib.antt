pub mod Saving
pub mod Adding
pub mod Answers
pub mod Bounds
