-- What is proved of marks.
pub mod PlaceBitLaws
pub mod MarkedLaws
