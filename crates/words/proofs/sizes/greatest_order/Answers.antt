-- The test is the definition's.
use mathlib.Core.Path.{sym}
use Rattle.words.proofs.SizeLaws.{order_object, order_other}
use Rattle.words.proofs.sizes.greatest_order.Goals as goal

pub returns-then-space-eq-OBJECT : goal.returns-then-space-eq-OBJECT
returns-then-space-eq-OBJECT c = sym (order_object _ c.if-space-eq-OBJECT.true)

pub returns : goal.returns
returns c = sym (order_other _ c.if-space-eq-OBJECT.false)
