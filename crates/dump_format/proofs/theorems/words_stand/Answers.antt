-- The words of a dump stand where the manual says.
use Rattle.dump_format.proofs.ByteLaws.{words_stand}
use Rattle.dump_format.proofs.theorems.words_stand.Goals as goal

pub returns : goal.returns
returns c = words_stand
