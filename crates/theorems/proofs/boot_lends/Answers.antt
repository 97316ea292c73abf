use Rattle.interface.proofs.Consequences.BootLendsLaws.{boot_lends}
use Rattle.theorems.proofs.boot_lends.Goals as goal

pub returns : goal.returns
returns c = boot_lends
