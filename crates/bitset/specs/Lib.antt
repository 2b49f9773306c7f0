pub mod BitSet
pub mod BitSetLaws
