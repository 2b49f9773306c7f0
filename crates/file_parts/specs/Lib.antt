pub mod Answers
pub mod Checked
pub mod PlaceLaws
pub mod Loaded
pub mod CheckedLaws
