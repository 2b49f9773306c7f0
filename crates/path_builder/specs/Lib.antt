pub mod Put
pub mod Aligned
pub mod Builder
pub mod BuilderLaws
pub mod Measured
