-- What the contracts of playing a journal cite.
pub mod Playing
