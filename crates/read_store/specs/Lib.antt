pub mod Atoms
pub mod Layout
pub mod Joined
