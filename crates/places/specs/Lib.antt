-- What the contracts of the place table cite.
pub mod Table
