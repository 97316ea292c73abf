-- What the contracts of the message block's functions cite.
pub mod Typed
pub mod Turns
