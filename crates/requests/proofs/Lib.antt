-- The laws that the functions' proofs cite.
pub mod EmptyDomainLaws
pub mod MaskedRangeLaws
