-- A caller is an EC, so its domain is one with a PD.
use borrow.Author.Rules.{rules}
use Rattle.capabilities.proofs.CallerLaws.{sized_objects, caller_small, caller_domain_small}
use Rattle.capabilities.proofs.domain.Goals as goal

pub load-requires : goal.load-requires
load-requires c = search (sized_objects, caller_small, rules)

pub returns : goal.returns
returns c = (c.load.ensures, rw c.load.ensures (caller_domain_small c.requires))
