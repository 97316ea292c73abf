-- The journal as it is read, in parts and in pieces.
pub mod JournalLaws
