-- What the contracts of revocation and of repair cite.
pub mod Changing
pub mod Stripping
