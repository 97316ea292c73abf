-- Word 0 and the untyped words are stored as the definition copies them, and both counts fit the blocks.
use Prim.Native.Nat.{◌-◌}
use mathlib.Core.Path.{◌≡◌, ◌∙◌}
use native.Mathlib.Omega.{arith}
use lib.ListN.{length-set}
use Rattle.interface.specs.Basics.{word}
use Rattle.interface.specs.Message.{head_words}
use Rattle.blocks.proofs.BlockLaws.{counts_fit, copied_more, is_copied}
use Rattle.blocks.proofs.copy_untyped.Goals as goal

pub bounds-source-i : goal.bounds-source-i
bounds-source-i c = omega (arith, counts_fit (word c.args.source.now 0) c.requires.fits)

pub bounds-target-i : goal.bounds-target-i
bounds-target-i c = omega (arith, counts_fit (word c.args.source.now 0) c.requires.fits, simp length-set at c.loop-i.invariant.same_length)

pub loop-i-preserved : goal.loop-i-preserved
loop-i-preserved c = record {
  same_length = simp length-set (c.loop-i.invariant.same_length ∙ simp length-set);
  copied =
      copied_more _ c.args.source.now c.loop-i.i (omega arith)
      (omega (arith, counts_fit (word c.args.source.now 0) c.requires.fits))
      (simp length-set (omega (arith, counts_fit (word c.args.source.now 0) c.requires.fits)))
      c.loop-i.invariant.copied;
}

pub returns : goal.returns
returns c =
    let all : c.loop-i.i - head_words ≡ c.untyped_count.result = omega arith in
    is_copied c.args.source.now c.args.target.now _ c.untyped_count.ensures (rw all at c.loop-i.invariant.copied)
