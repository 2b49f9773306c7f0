pub mod Forgetting
pub mod Undoing
pub mod Answers
