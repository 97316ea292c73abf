-- The tables are boot's, and the reply is packed.
use Rattle.abi.proofs.PackingLaws.{boots}
use Rattle.abi.proofs.rudozhev_boot.Goals as goal

pub returns : goal.returns
returns c = boots c.boot.ensures.booted c.pack.ensures
