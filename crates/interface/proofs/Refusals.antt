-- Each refusal has exactly its cause.
pub mod ChecksInTurn
pub mod RefusalLaws
pub mod MaskRefusals
pub mod CreationRefusals
pub mod OtherRefusals
pub mod DispatchRefusals
pub mod MalformedLaws
