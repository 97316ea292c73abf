-- Repair empties exactly the places that the manual says.
use Rattle.repair_rules.proofs.TablesLaws.{empties_exactly}
use Rattle.repair_rules.proofs.empties_exactly.Goals as goal

pub returns : goal.returns
returns c = empties_exactly
