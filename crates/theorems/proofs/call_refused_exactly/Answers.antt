use Rattle.interface.proofs.Refusals.RefusalLaws.{call_refused_exactly}
use Rattle.theorems.proofs.call_refused_exactly.Goals as goal

pub returns : goal.returns
returns c = call_refused_exactly
