pub mod Listed
pub mod Load
pub mod Chains
