-- The history follows each step, and demand 3.
pub mod HistoryLaws
pub mod AddedLaws
pub mod CutLaws
pub mod NoteLaws
pub mod Sequences
pub mod BootLaws
pub mod LentOutLaws
pub mod DemandLaws
