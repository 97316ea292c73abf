-- The laws that the functions' proofs cite.
pub mod AdmissionLaws
pub mod RuleLaws
