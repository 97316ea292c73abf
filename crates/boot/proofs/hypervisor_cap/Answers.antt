-- The space decides as in the definition.
use borrow.Author.Rules.{rules}
use Rattle.boot.proofs.BootCapLaws.{hypervisor_resource, hypervisor_held}
use Rattle.boot.proofs.hypervisor_cap.Goals as goal

pub returns-then-space-lt-OBJECT : goal.returns-then-space-lt-OBJECT
returns-then-space-lt-OBJECT c = search (hypervisor_resource, rules)

pub returns : goal.returns
returns c = search (hypervisor_held, rules)
