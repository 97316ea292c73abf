-- What the contracts of items and their windows cite.
pub mod Matching
