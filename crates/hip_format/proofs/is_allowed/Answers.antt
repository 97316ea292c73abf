-- The bits of a type in two halves.
use Rattle.hip_format.proofs.TypeLaws.{type_tested}
use Rattle.hip_format.proofs.is_allowed.Goals as goal

pub returns : goal.returns
returns c = type_tested c.args.bits c.ranges.bits.fits
