-- What the contracts of translation cite.
pub mod Translating
