pub mod References
pub mod Widths
