-- The manual's section on the information page as definitions, and what follows from them.
pub mod Format
pub mod Reader
pub mod Writer
pub mod Consequences
pub mod Examples
