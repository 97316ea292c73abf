-- The domain decides as in the definition.
use borrow.Author.Rules.{rules}
use Rattle.boot.proofs.BootCapLaws.{hypervisor_place, root_place, other_place}
use Rattle.boot.proofs.boot_cap.Goals as goal

pub returns-then-domain-eq-HYPERVISOR : goal.returns-then-domain-eq-HYPERVISOR
returns-then-domain-eq-HYPERVISOR c = search (hypervisor_place, rules)

pub returns-then-domain-eq-ROOT : goal.returns-then-domain-eq-ROOT
returns-then-domain-eq-ROOT c = search (root_place, rules)

pub returns : goal.returns
returns c = search (other_place, rules)
