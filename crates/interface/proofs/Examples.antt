-- The examples and small cases, by computation.
pub mod Computed
mod FaultLaws
mod Shared
pub mod SmallCasesComputed
