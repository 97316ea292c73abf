-- The laws that the functions' proofs cite.
pub mod LowestLaws
pub mod KeepingLaws
pub mod FaultLaws
