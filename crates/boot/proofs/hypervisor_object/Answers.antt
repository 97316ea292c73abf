-- The test is the definition's.
use borrow.Author.Rules.{rules}
use Rattle.boot.proofs.BootCapLaws.{hypervisor_holds, hypervisor_holds_none}
use Rattle.boot.proofs.hypervisor_object.Goals as goal

pub returns-then-number-lt-ROOT_PD : goal.returns-then-number-lt-ROOT_PD
returns-then-number-lt-ROOT_PD c = search (hypervisor_holds, rules)

pub returns : goal.returns
returns c = search (hypervisor_holds_none, rules)
