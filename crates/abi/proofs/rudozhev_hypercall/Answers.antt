-- The tables and the block are the hypercall's, and the reply is packed.
use Rattle.abi.proofs.PackingLaws.{calls}
use Rattle.abi.proofs.rudozhev_hypercall.Goals as goal

pub returns : goal.returns
returns c = calls c.hypercall.ensures.is_outcome c.pack.ensures
