-- The test is the definition's.
use mathlib.Core.Path.{sym}
use Rattle.words.proofs.SizeLaws.{selectors_object, selectors_other}
use Rattle.words.proofs.sizes.selectors.Goals as goal

pub returns-then-space-eq-OBJECT : goal.returns-then-space-eq-OBJECT
returns-then-space-eq-OBJECT c = sym (selectors_object _ c.if-space-eq-OBJECT.true)

pub returns : goal.returns
returns c = sym (selectors_other _ c.if-space-eq-OBJECT.false)
