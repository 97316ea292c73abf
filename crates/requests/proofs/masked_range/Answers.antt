-- The base is a selector of the space already, so that it names the selector of its number.
use borrow.Author.Rules.{rules}
use Rattle.requests.proofs.MaskedRangeLaws.{never_outside, named_proper, named_describes}
use Rattle.requests.proofs.masked_range.Goals as goal

pub returns-in_default : goal.returns-in_default
returns-in_default c = absurd (search (never_outside, rules))

pub of-requires-2 : goal.of-requires-2
of-requires-2 c = search (named_proper, rules)

pub returns : goal.returns
returns c = search (named_describes, rules)
