pub mod Lending
pub mod Atoms
pub mod Paths
