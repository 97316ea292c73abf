-- What the contracts of the messages cite.
pub mod Messages
