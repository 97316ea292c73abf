-- The laws of permissions, ranges, sizes and places that the functions' proofs and the crates above cite.
pub mod BitLaws
pub mod RangeLaws
pub mod SizeLaws
pub mod PlaceLaws
