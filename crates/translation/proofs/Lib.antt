-- What is proved of translating an item.
pub mod TranslateLaws
pub mod ShownLaws
