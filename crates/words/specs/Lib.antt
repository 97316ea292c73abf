-- The vocabulary below every other definition: fields of a word, the sizes of the layout, permissions, ranges.
pub mod Fields
pub mod Sizes
pub mod Permissions
pub mod Ranges
