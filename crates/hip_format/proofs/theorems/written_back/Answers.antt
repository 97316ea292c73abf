-- What is read makes the same page.
use Rattle.hip_format.proofs.WriteLaws.{same_written}
use Rattle.hip_format.proofs.BackLaws.{read_fits}
use Rattle.hip_format.proofs.theorems.written_back.Goals as goal

pub returns : goal.returns
returns c = record { same_bytes_lem = same_written; fits = read_fits }
