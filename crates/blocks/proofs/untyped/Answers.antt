-- The part has as many words as the count says, and a block has them where its counts fit.
use mathlib.Core.Bool.{not}
use mathlib.Core.Path.{ap}
use Rattle.blocks.proofs.BlockLaws.{untyped_other_length, untyped_too_long, untyped_there, untyped_ends}
use Rattle.blocks.proofs.untyped.Goals as goal

pub returns-then-block-ne-BLOCK_WORDS : goal.returns-then-block-ne-BLOCK_WORDS
returns-then-block-ne-BLOCK_WORDS c = untyped_other_length _ c.if-block-ne-BLOCK_WORDS.true

pub returns-then-not-payload_fits : goal.returns-then-not-payload_fits
returns-then-not-payload_fits c = untyped_too_long _ _ c.payload_fits.ensures (ap not c.if-not-payload_fits.true)

pub slice_bounds-result-end-2 : goal.slice_bounds-result-end-2
slice_bounds-result-end-2 c =
    untyped_ends c.args.block.now _ c.payload_fits.ensures _ (ap not c.if-not-payload_fits.false) c.untyped_count.ensures
    c.if-block-ne-BLOCK_WORDS.false

pub returns : goal.returns
returns c =
    untyped_there _ _ c.payload_fits.ensures _ (ap not c.if-not-payload_fits.false) c.untyped_count.ensures c.if-block-ne-BLOCK_WORDS.false
