-- The laws that the functions' proofs cite.
pub mod FoundLaws
pub mod LineLaws
pub mod PlayingLaws
