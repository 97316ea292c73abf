-- The name, the value, the unit and the line end follow one another.
use native.Mathlib.Omega.{arith}
use Rattle.hip_text.proofs.LineLaws.{wrote_frequency}
use Rattle.hip_text.proofs.put_frequency.Goals as goal

pub returns : goal.returns
returns c = wrote_frequency (omega (arith, c.requires)) c.args.name.now c.args.value c.put-value_at.ensures c.put_short-unit_at.ensures.wrote c.put-end.ensures c.put.ensures
