-- A number has room after a word of four bytes.
use native.Mathlib.Omega.{arith}
use Rattle.texts.proofs.DecimalLaws.{decimal_at_most}
use Rattle.journal_lines.proofs.LineLaws.{wrote_named}
use Rattle.journal_lines.proofs.put_named.Goals as goal

pub put_number-requires : goal.put_number-requires
put_number-requires c = omega (arith, c.requires, c.put-number_at.auto.out, c.put-number_at.ensures.ends, decimal_at_most 19 c.args.number (omega (arith, c.ranges.number)))

pub returns : goal.returns
returns c = wrote_named c.args.name.now c.args.number c.put-number_at.ensures c.put_number.ensures
