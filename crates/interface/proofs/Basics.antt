-- Tests, numbers below one and loops over them, changed functions, gathered lists and walks: what the general notions of specs/Basics keep.
pub mod BoolLaws
pub mod BelowLaws
pub mod LoopLaws
pub mod PutLaws
pub mod GatherLaws
pub mod ChainLaws
