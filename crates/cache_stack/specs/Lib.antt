pub mod Effects
pub mod marks
