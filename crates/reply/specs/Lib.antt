-- The reply, as definitions.
pub mod Replies
