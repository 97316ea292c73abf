-- What is proved of dumps: bytes and words, the first fault, and the output.
pub mod ByteLaws
pub mod FirstLaws
pub mod OutputLaws
