pub mod Answers
pub mod Effects
