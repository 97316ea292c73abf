-- The manual's section on found tables as definitions, as far as bytes go, and what follows from them.
pub mod Dumps
pub mod DumpFacts
