-- What is proved of the words of a body.
pub mod BodyLaws
