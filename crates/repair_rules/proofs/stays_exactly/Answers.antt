-- A place stays exactly where it is live and lies in domain 0 or has a whole chain.
use Rattle.repair_rules.proofs.TablesLaws.{stays_exactly}
use Rattle.repair_rules.proofs.stays_exactly.Goals as goal

pub returns : goal.returns
returns c = stays_exactly
