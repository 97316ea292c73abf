-- What the contracts of the functions that write a line cite.
pub mod Lines
