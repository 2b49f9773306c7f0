pub mod Meaning
pub mod Effects
pub mod lookup
pub mod table
