-- Sound tables stay, and repairing once more changes nothing.
use Rattle.repair_rules.proofs.TablesLaws.{repairs_once}
use Rattle.repair_rules.proofs.repairs_once.Goals as goal

pub returns : goal.returns
returns c = repairs_once
