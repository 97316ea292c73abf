-- The manual's section on found tables as definitions, as far as tables go, and what follows from them.
pub mod Repair
pub mod RepairFacts
pub mod RepairExamples
