-- What the contracts of walks and of what they mark cite.
pub mod Walks
