-- What the contracts of the linked functions cite.
pub mod Packing
pub mod PagePacking
