-- The page decides as in the definition.
use borrow.Author.Rules.{rules}
use Rattle.boot.proofs.BootCapLaws.{information_lent, utcb_lent, none_lent}
use Rattle.boot.proofs.root_memory.Goals as goal

pub returns-then-page-eq-INFORMATION_PAGE : goal.returns-then-page-eq-INFORMATION_PAGE
returns-then-page-eq-INFORMATION_PAGE c = search (information_lent, rules)

pub returns-then-page-eq-UTCB_PAGE : goal.returns-then-page-eq-UTCB_PAGE
returns-then-page-eq-UTCB_PAGE c = search (utcb_lent, rules)

pub returns : goal.returns
returns c = search (none_lent, rules)
