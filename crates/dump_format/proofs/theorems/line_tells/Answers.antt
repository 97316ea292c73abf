-- The line tells the first fault.
use Rattle.dump_format.proofs.OutputLaws.{line_tells}
use Rattle.dump_format.proofs.theorems.line_tells.Goals as goal

pub returns : goal.returns
returns c = line_tells
