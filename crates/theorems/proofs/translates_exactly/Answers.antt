use Rattle.interface.proofs.Deliveries.TranslationLaws.{translates_exactly}
use Rattle.theorems.proofs.translates_exactly.Goals as goal

pub returns : goal.returns
returns c = translates_exactly
