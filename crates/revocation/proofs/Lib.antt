-- What is proved of REVOKE.
pub mod RevokeLaws
