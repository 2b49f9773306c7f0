-- The laws of the definitions, and lemmas.
pub mod Agree
pub mod Blobs
pub mod Bounds
pub mod Cases
pub mod Fuel
pub mod GrammarLaws
pub mod Names
pub mod Promise
pub mod Refusals
pub mod Same
pub mod Sound
