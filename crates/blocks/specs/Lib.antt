-- What the contracts of the message block cite.
pub mod Fitting
