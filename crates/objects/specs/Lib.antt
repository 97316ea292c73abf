-- What the contracts of the object table cite.
pub mod Records
