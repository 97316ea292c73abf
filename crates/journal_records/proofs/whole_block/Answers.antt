-- The block begins with the words that the loop has passed.
use Prim.Native.Nat.{◌+◌}
use mathlib.Core.Path.{◌≡◌, refl}
use native.Mathlib.Omega.{arith}
use lib.ListN.{length-set}
use Rattle.words.specs.Sizes.{block_words}
use Rattle.interface.specs.Basics.{listed}
use Rattle.interface.specs.Journal.{body_word}
use Rattle.journal_records.proofs.BodyLaws.{word_at, listed_more, listed_all}
use Rattle.journal_records.proofs.whole_block.Goals as goal

pub loop-i-init : goal.loop-i-init
unfolding listed
loop-i-init c = (c.requires.2, refl)

pub loop-i-preserved : goal.loop-i-preserved
loop-i-preserved c =
    let turn = c.loop-i in
    let body = c.args.body.now in
    let word = word_at body (c.args.from + turn.i) c.get.result c.get.ensures in (
      simp length-set turn.invariant.0,
      listed_more (λ k. body_word body (c.args.from + k)) turn.block turn.i c.get.result (omega arith) word turn.invariant.1,
    )

pub returns : goal.returns
returns c =
    let turn = c.loop-i in
    let all : turn.i ≡ block_words = omega arith in
    listed_all (λ k. body_word c.args.body.now (c.args.from + k)) turn.block block_words turn.invariant.0 (rw all at turn.invariant.1)
