-- The tables are those that repair leaves, and the reply is packed.
use Rattle.abi.proofs.PackingLaws.{mends}
use Rattle.abi.proofs.rudozhev_repair.Goals as goal

pub returns : goal.returns
returns c = mends c.repair.ensures c.pack.ensures
