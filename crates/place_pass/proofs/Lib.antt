-- The laws that the functions' proofs cite.
pub mod BootPlaceLaws
pub mod GroupLaws
pub mod QuickLaws
