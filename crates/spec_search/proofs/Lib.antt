-- The laws of the definitions, and lemmas.
pub mod Enough
pub mod Flat
pub mod Induction
pub mod Lists
pub mod PathBits
pub mod Reference
pub mod Sound
pub mod Used
