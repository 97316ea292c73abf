-- What the contracts of calls share.
pub mod Callers
