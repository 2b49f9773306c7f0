pub mod Handle
pub mod HandleLaws
pub mod SmallAtom
pub mod SmallAtomLaws
