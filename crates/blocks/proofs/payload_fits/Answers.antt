-- The counts are the definition's.
use Rattle.blocks.proofs.BlockLaws.{fits_counts}
use Rattle.blocks.proofs.payload_fits.Goals as goal

pub returns : goal.returns
returns c = fits_counts _ _ _ c.untyped_count.ensures c.typed_count.ensures
