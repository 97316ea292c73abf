-- What the contract of CALL cites.
pub mod Carrying
