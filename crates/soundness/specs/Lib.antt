-- What the search for the first fault cites beside the rules of damage themselves.
pub mod RuleNumbers
