-- What is proved of the text of a page.
pub mod LineLaws
