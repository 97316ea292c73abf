-- A report is the whole output, or leaves the buffer.
use Rattle.dump_format.proofs.OutputLaws.{reports_whole}
use Rattle.dump_format.proofs.theorems.reports_whole.Goals as goal

pub returns : goal.returns
returns c = reports_whole
