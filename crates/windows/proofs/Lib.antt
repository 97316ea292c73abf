-- What is proved of items and their windows.
pub mod WindowLaws
