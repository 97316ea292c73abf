-- What a message and an initial range move, why an item is null, and what a translation shows.
pub mod DelegationLaws
pub mod TransferLaws
pub mod DeliveryLaws
pub mod ReasonLaws
pub mod ReceivedLaws
pub mod InitialRangeLaws
pub mod TranslationLaws
