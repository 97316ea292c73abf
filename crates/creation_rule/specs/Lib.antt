-- What the contracts of the rule that the creations share cite.
pub mod CreationRule
