pub mod Outcome
pub mod read_items
