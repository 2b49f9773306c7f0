pub mod Joins
mod Settling
