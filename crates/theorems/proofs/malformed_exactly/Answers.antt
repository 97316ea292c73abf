use Rattle.interface.proofs.Refusals.MalformedLaws.{malformed_exactly}
use Rattle.theorems.proofs.malformed_exactly.Goals as goal

pub returns : goal.returns
returns c = malformed_exactly
