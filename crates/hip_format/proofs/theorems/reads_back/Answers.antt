-- What is written is a page.
use Rattle.hip_format.proofs.WriteLaws.{written_reads}
use Rattle.hip_format.proofs.theorems.reads_back.Goals as goal

pub returns : goal.returns
returns c = written_reads
