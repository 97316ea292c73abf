-- What is proved of each creation.
pub mod CallLaws
