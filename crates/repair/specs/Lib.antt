-- What the contracts of repair cite beside its definition.
pub mod Mending
