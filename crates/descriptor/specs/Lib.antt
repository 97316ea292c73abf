-- The range descriptor, as definitions.
pub mod Descriptors
