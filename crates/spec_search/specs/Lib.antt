pub mod Search
pub mod Lists
pub mod Enough
pub mod Flat
pub mod PathBits
