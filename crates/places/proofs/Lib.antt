-- What is proved of the place table's definitions.
pub mod CapTableLaws
pub mod GivenLaws
