pub mod Words
pub mod Copies
pub mod Numbers
