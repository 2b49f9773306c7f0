pub mod Numbers
pub mod State
