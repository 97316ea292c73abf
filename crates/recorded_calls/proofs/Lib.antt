-- The laws that the functions' proofs cite.
pub mod PlayLaws
pub mod LineLaws
