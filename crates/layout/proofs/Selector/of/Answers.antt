-- The tests are the definition's.
use mathlib.Core.Path.{sym}
use Rattle.layout.proofs.NumberLaws.{selected_object, selected_inside, selected_outside}
use native.Mathlib.Omega.{arith}
use Rattle.words.proofs.SizeLaws.{selectors_other}
use Rattle.layout.proofs.Selector.of.Goals as goal

pub returns-then-space-eq-OBJECT : goal.returns-then-space-eq-OBJECT
returns-then-space-eq-OBJECT c = sym (selected_object _ _ c.if-space-eq-OBJECT.true)

pub returns-then-word-ge-PAGE_SELECTORS : goal.returns-then-word-ge-PAGE_SELECTORS
returns-then-word-ge-PAGE_SELECTORS c = sym (selected_outside _ _ c.if-space-eq-OBJECT.false (rw (selectors_other _ c.if-space-eq-OBJECT.false) (omega arith)))

pub returns : goal.returns
returns c = sym (selected_inside _ _ c.if-space-eq-OBJECT.false (rw (selectors_other _ c.if-space-eq-OBJECT.false) (omega arith)))
