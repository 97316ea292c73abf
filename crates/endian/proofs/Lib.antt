-- The laws that other crates cite.
pub mod PartLaws
pub mod NumberLaws
pub mod RunLaws
pub mod LibraryLaws
