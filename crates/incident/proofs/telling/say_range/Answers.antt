-- A range has a first selector.
use lib.Pow.{pow_pos}
use borrow.Author.Rules.{rules}
use Rattle.descriptor.proofs.DescriptorLaws.{proper_order}
use Rattle.incident.proofs.telling.say_range.Goals as goal

pub size-count-requires : goal.size-count-requires
size-count-requires c = search (proper_order c.requires, rules)

pub at-requires : goal.at-requires
at-requires c = search (pow_pos, rules)
