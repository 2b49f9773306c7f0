pub mod Effects
pub mod undo_step
pub mod Driven
