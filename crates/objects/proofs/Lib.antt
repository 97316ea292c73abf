-- The laws of the object table that the functions' proofs and the crates above cite.
pub mod CountingLaws
pub mod GreatestLaws
pub mod RecordTableLaws
pub mod WalkLaws
