-- The name, the value and the line end follow one another.
use native.Mathlib.Omega.{arith}
use Rattle.hip_text.proofs.LineLaws.{wrote_bits}
use Rattle.hip_text.proofs.put_bits.Goals as goal

pub returns : goal.returns
returns c = wrote_bits (omega (arith, c.requires)) c.args.name.now c.args.value c.put-value_at.ensures c.put_hex-end.ensures.wrote c.put.ensures
