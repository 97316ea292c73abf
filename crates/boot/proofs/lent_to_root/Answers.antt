-- The four words are those of the definition.
use borrow.Author.Rules.{rules}
use Rattle.boot.proofs.BootCapLaws.{lent_page_lem}
use Rattle.boot.proofs.lent_to_root.Goals as goal

pub returns : goal.returns
returns c = search (lent_page_lem, rules)
