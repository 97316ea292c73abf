use Rattle.interface.proofs.Examples.Computed.{computed_message}
use Rattle.theorems.proofs.message_example.Goals as goal

pub returns : goal.returns
returns c = computed_message
