-- Tables and their dump make each other.
use Rattle.dump_format.proofs.OutputLaws.{dumps_both_ways}
use Rattle.dump_format.proofs.theorems.dumps_both_ways.Goals as goal

pub returns : goal.returns
returns c = dumps_both_ways
