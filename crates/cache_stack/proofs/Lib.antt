pub mod Stacks
mod Marking
