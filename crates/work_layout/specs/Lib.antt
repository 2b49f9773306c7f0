pub mod Layout
pub mod Halves
pub mod Rows
pub mod Parents
pub mod Prev
pub mod Counts
