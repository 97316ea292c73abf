-- The laws that the functions' proofs cite.
pub mod BootStretches
pub mod StretchLaws
