-- A number of 32 bits has at most ten digits.
use native.Mathlib.Omega.{arith}
use Rattle.texts.proofs.DecimalLaws.{decimal_at_most}
use Rattle.hip_text.proofs.put_short.Goals as goal

pub put_decimal-requires : goal.put_decimal-requires
put_decimal-requires c = omega (arith, c.requires, decimal_at_most 9 c.args.number (omega (arith, c.ranges.number)))

pub returns-clause-upper_bound : goal.returns-clause-upper_bound
returns-clause-upper_bound c = omega (arith, c.put_decimal.ensures.ends, decimal_at_most 9 c.args.number (omega (arith, c.ranges.number)))
