-- The digits stand after the two bytes of `0x`.
use native.Mathlib.Omega.{arith}
use Rattle.texts.proofs.TextLaws.{wrote_then, length_hexadecimal}
use Rattle.texts.proofs.put_hex.Goals as goal

pub put_digits-requires : goal.put_digits-requires
put_digits-requires c =
    omega (arith, c.requires, c.put-start.auto.out, c.put-start.ensures.ends, length_hexadecimal c.args.count c.args.number)

pub returns : goal.returns
returns c =
    wrote_then (omega (arith, c.requires)) c.put-start.ensures c.put_digits.ensures
