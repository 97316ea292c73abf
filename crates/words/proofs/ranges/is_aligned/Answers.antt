-- Base 0 is aligned for every order, and of any other word the trailing zero bits tell it.
use mathlib.Core.Path.{sym}
use borrow.Author.Rules.{rules}
use Rattle.words.proofs.RangeLaws.{zero_aligned, others_aligned}
use Rattle.words.proofs.ranges.is_aligned.Goals as goal

pub returns-then-base-eq0 : goal.returns-then-base-eq0
returns-then-base-eq0 c = sym (rw c.if-base-eq0.true (zero_aligned c.args.order))

pub returns : goal.returns
returns c = others_aligned 32 c.args.order c.args.base (search rules) (search rules)
