-- The test is the definition's.
use borrow.Author.Tests.{eq-eqb, ne_eqb}
use Rattle.translation.proofs.base_of.Goals as goal

pub returns-then-offset-eq0 : goal.returns-then-offset-eq0
returns-then-offset-eq0 c = rw (eq-eqb _ 0 c.if-offset-eq0.true)

pub returns-else-offset-eq0 : goal.returns-else-offset-eq0
returns-else-offset-eq0 c = rw (ne_eqb _ 0 c.if-offset-eq0.false)
