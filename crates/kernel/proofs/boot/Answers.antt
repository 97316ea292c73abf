-- The tables are boot's, from which every sequence of events starts.
use Rattle.kernel.proofs.FaceLaws.{from_boot_lem}
use Rattle.kernel.proofs.boot.Goals as goal

pub returns : goal.returns
returns c = record { booted = c.boot.ensures; from_boot = (from_boot_lem c.boot.ensures).1 }
