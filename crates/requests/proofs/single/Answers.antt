-- One selector is a range of order 0.
use borrow.Author.Rules.{rules}
use Rattle.requests.proofs.MaskedRangeLaws.{aligned_single}
use Rattle.requests.proofs.single.Goals as goal

pub range-requires : goal.range-requires
range-requires c = search (aligned_single, rules)
