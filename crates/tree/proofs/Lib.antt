-- What is proved of revocation and of the census.
pub mod MarkedLaws
pub mod StripLaws
pub mod CensusLaws
