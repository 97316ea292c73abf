-- What the contracts of the functions that write a text cite.
pub mod Texts
