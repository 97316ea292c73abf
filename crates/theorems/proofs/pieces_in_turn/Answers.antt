use Rattle.interface.proofs.Journal.JournalLaws.{pieces_in_turn}
use Rattle.theorems.proofs.pieces_in_turn.Goals as goal

pub returns : goal.returns
returns c = pieces_in_turn
