-- The laws that the functions' proofs and the crates above cite.
pub mod TailLaws
pub mod RecordTests
pub mod PdLaws
pub mod RecordParts
pub mod RestLaws
