-- What the contracts of the functions that print a page cite.
pub mod PageText
