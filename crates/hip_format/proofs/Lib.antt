-- The laws that other crates cite.
pub mod SumLaws
pub mod FieldLaws
pub mod TypeLaws
pub mod PageLaws
pub mod ChecksumLaws
pub mod JudgeLaws
pub mod FrontLaws
pub mod BackLaws
pub mod DescriptorLaws
pub mod GivenLaws
pub mod WriteLaws
