-- What is proved of texts in a buffer.
pub mod DecimalLaws
pub mod TextLaws
