-- What the contracts of delegation cite.
pub mod Delegating
