-- The laws of numbers that the functions' proofs and the crates above cite.
pub mod NumberLaws
