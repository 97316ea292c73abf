-- The places before the loop's offset are marked.
use mathlib.Core.Path.{◌≡◌, sym}
use native.Mathlib.Nat.{add-zero, add_assoc}
use native.Mathlib.Omega.{arith}
use Rattle.marks.specs.PlaceBits.{word_bits}
use Rattle.descent.proofs.MarkLaws.{further, passed, marking_at}
use Rattle.descent.proofs.UnmarkedLaws.{parentless_below}
use Rattle.descent.proofs.Search.mark_word.Goals as goal

pub are_parentless-requires : goal.are_parentless-requires
are_parentless-requires c =
    (c.args.self.now.sized, c.requires.1)

pub returns-then-are_parentless : goal.returns-then-are_parentless
returns-then-are_parentless c =
    passed c.requires.0 _ (omega arith) (parentless_below _ _ _ _ c.are_parentless.ensures c.if-are_parentless.true)

pub loop-offset-init : goal.loop-offset-init
loop-offset-init c =
    marking_at (add-zero _) c.requires.0

pub after-place-requires : goal.after-place-requires
after-place-requires c =
    omega (arith, c.requires.1)

pub descends-below-requires : goal.descends-below-requires
descends-below-requires c =
    (marking_at c.after-place.ensures c.loop-offset.invariant, omega (arith, c.after-place.ensures, c.requires.1))

pub set-requires : goal.set-requires
set-requires c =
    omega (arith, c.after-place.ensures, c.requires.1)

pub loop-offset-preserved : goal.loop-offset-preserved
loop-offset-preserved c =
    marking_at (sym (add_assoc _ _ _))
    (further (marking_at (sym c.after-place.ensures) c.descends-below.ensures.0) c.after-place.ensures c.descends-below.ensures.1 c.set.ensures)

pub returns : goal.returns
returns c =
    let all : c.loop-offset.offset ≡ word_bits = omega arith in rw all at c.loop-offset.invariant
