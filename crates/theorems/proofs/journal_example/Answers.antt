use Rattle.interface.proofs.Examples.Computed.{journal_example}
use Rattle.theorems.proofs.journal_example.Goals as goal

pub returns : goal.returns
returns c = journal_example
