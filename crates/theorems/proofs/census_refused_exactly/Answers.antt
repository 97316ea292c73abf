use Rattle.interface.proofs.Refusals.OtherRefusals.{census_refused_exactly}
use Rattle.theorems.proofs.census_refused_exactly.Goals as goal

pub returns : goal.returns
returns c = census_refused_exactly
