use Rattle.interface.proofs.Deliveries.ReceivedLaws.{delivers_words}
use Rattle.theorems.proofs.delivers_words.Goals as goal

pub returns : goal.returns
returns c = delivers_words
