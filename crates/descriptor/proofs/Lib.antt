-- The laws of descriptors that the functions' proofs and the crates above cite.
pub mod DescriptorLaws
