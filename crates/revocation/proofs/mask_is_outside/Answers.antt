-- The test is the definition's: what the mask keeps of the greatest permissions of the range's space.
use Rattle.revocation.proofs.RevokeLaws.{keeps_none}
use Rattle.revocation.proofs.mask_is_outside.Goals as goal

pub returns : goal.returns
returns c =
    keeps_none c.args.range c.space.ensures c.greatest_permissions-greatest.ensures c.mask-mask.ensures c.keep.ensures
