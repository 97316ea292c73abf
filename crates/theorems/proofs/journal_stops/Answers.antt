use Rattle.interface.proofs.Examples.Computed.{journal_stops}
use Rattle.theorems.proofs.journal_stops.Goals as goal

pub returns : goal.returns
returns c = journal_stops
