-- A sound dump comes back unchanged.
use Rattle.dump_format.proofs.OutputLaws.{sound_comes_back}
use Rattle.dump_format.proofs.theorems.sound_comes_back.Goals as goal

pub returns : goal.returns
returns c = sound_comes_back
