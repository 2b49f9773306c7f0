mod First
mod Chains
mod Seeking
mod Turns
pub mod Tables
