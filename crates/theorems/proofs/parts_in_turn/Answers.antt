use Rattle.interface.proofs.Journal.JournalLaws.{parts_in_turn}
use Rattle.theorems.proofs.parts_in_turn.Goals as goal

pub returns : goal.returns
returns c = parts_in_turn
