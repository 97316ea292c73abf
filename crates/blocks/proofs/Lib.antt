-- What is proved of the message block's definitions.
pub mod BlockLaws
