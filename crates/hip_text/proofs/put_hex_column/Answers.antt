-- The number stands after two blanks.
use native.Mathlib.Omega.{arith}
use Rattle.hip_text.proofs.LineLaws.{wrote_hex_column}
use Rattle.hip_text.proofs.put_hex_column.Goals as goal

pub returns-clause-wrote : goal.returns-clause-wrote
returns-clause-wrote c = wrote_hex_column (omega (arith, c.requires)) c.args.count c.args.number c.put-hex_at.ensures c.put_hex.ensures.wrote

pub returns-clause-value : goal.returns-clause-value
returns-clause-value c = omega (arith, c.put_hex.ensures.value, c.put-hex_at.ensures.ends)
