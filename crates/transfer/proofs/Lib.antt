-- What is proved of one typed item, of the items in turn and of a message.
pub mod ItemLaws
pub mod MovedLaws
pub mod UnseenLaws
