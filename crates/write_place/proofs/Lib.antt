pub mod Frames
pub mod Sizes
