-- The laws that the functions' proofs and the calls' crates cite.
pub mod CallerLaws
