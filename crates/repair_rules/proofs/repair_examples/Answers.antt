-- The manual's examples.
use Rattle.repair_rules.proofs.ExamplesComputed.{repair_examples}
use Rattle.repair_rules.proofs.repair_examples.Goals as goal

pub returns : goal.returns
returns c = repair_examples
