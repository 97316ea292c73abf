-- What the contracts cite.
pub mod Parts
pub mod Numbers
pub mod Runs
