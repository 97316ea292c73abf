-- What the pass over the places cites beside their rules.
pub mod PassKeeping
