-- The laws that the functions' proofs cite.
pub mod MarkingLaws
pub mod WalkLaws
pub mod MendLaws
