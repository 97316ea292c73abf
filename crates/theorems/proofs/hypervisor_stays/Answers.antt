use Rattle.interface.proofs.Consequences.ConsequenceLaws.{hypervisor_stays}
use Rattle.theorems.proofs.hypervisor_stays.Goals as goal

pub returns : goal.returns
returns c = hypervisor_stays
