-- Repair changes the bytes of emptied places alone.
use Rattle.dump_format.proofs.OutputLaws.{bytes_exactly}
use Rattle.dump_format.proofs.theorems.bytes_exactly.Goals as goal

pub returns : goal.returns
returns c = bytes_exactly
