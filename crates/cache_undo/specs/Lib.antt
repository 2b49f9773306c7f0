pub mod Effects
pub mod undo_state
pub mod cache_copy
