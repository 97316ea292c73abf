-- What the contracts of the turns of a replay cite.
pub mod Buffers
