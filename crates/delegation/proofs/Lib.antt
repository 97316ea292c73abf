-- What is proved of live links and of delegations in turn.
pub mod LiveLinkLaws
pub mod DelegateLaws
