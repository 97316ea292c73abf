-- One checksum fits by a law modulo 65,536.
use Rattle.hip_format.proofs.ChecksumLaws.{one_fits}
use Rattle.hip_format.proofs.theorems.one_checksum_fits.Goals as goal

pub returns : goal.returns
returns c = one_fits
