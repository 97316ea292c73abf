-- What is proved of the rule that the creations share.
pub mod CheckLaws
pub mod InitialLaws
pub mod CreateLaws
