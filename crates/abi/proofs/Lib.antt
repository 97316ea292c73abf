-- The laws that the functions' proofs cite.
pub mod PackingLaws
pub mod PagePackingLaws
