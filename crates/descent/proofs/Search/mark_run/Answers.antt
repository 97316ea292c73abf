-- The places of the words before the loop's are marked.
use mathlib.Core.Path.{◌≡◌}
use native.Mathlib.Omega.{arith}
use Rattle.descent.proofs.MarkLaws.{marking_at}
use Rattle.descent.proofs.Search.mark_run.Goals as goal

pub loop-word-init : goal.loop-word-init
loop-word-init c = marking_at (omega arith) c.requires.0

pub after-requires : goal.after-requires
after-requires c =
    omega (arith, c.requires.1)

pub mark_word-requires : goal.mark_word-requires
mark_word-requires c =
    (marking_at c.after.ensures c.loop-word.invariant, omega (arith, c.after.ensures, c.requires.1))

pub loop-word-preserved : goal.loop-word-preserved
loop-word-preserved c = marking_at (omega (arith, c.after.ensures)) c.mark_word.ensures

pub returns : goal.returns
returns c =
    let all : c.loop-word.word ≡ c.args.words = omega arith in rw all at c.loop-word.invariant
