-- What is proved of the definitions, a folder for each topic.
pub mod Basics
pub mod Tables
pub mod Sound
pub mod History
pub mod Refusals
pub mod Deliveries
pub mod Consequences
pub mod Journal
pub mod Examples
