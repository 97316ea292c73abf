-- The list is the census's, and the reply is packed.
use Rattle.abi.proofs.PackingLaws.{counts}
use Rattle.abi.proofs.rudozhev_census.Goals as goal

pub returns : goal.returns
returns c = counts c.census.ensures.is_census c.pack.ensures
