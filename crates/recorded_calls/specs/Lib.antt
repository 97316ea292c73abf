-- What the contracts of one record cite.
pub mod OneRecord
