-- What is proved of the text of a line.
pub mod LineLaws
