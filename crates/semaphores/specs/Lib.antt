-- What the contracts of SM_CTRL's function cite.
pub mod Operations
