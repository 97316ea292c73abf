-- What the contracts of marks cite.
pub mod PlaceBits
