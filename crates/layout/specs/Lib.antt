-- Selectors, places and object numbers, as definitions.
pub mod Numbers
