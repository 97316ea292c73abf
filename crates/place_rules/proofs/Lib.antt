-- The laws that the functions' proofs and the crates above cite.
pub mod PlaceTests
pub mod BlankLaws
