-- Chains are judged exactly.
use Rattle.repair_rules.proofs.ChainLaws.{chains_exactly}
use Rattle.repair_rules.proofs.chains_exactly.Goals as goal

pub returns : goal.returns
returns c = chains_exactly
