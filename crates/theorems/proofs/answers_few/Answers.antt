use Rattle.interface.proofs.Consequences.LookupLaws.{answers_few}
use Rattle.theorems.proofs.answers_few.Goals as goal

pub returns : goal.returns
returns c = answers_few
