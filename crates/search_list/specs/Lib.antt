pub mod State
pub mod Cursor
pub mod Steps
