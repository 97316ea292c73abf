-- What is proved of boot's records, capabilities and tables.
pub mod BootCapLaws
pub mod FillingLaws
