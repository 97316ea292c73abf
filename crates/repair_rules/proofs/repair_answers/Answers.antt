-- What the operation answers and leaves.
use Rattle.repair_rules.proofs.TablesLaws.{repair_answers}
use Rattle.repair_rules.proofs.repair_answers.Goals as goal

pub returns : goal.returns
returns c = repair_answers
