-- The digits before the last one are those of a sixteenth of the number.
use Rattle.std.proofs.Common.{◌<◌, length, arith}
use Rattle.texts.proofs.DecimalLaws.{length_digits}
use Rattle.texts.proofs.TextLaws.{wrote_digit}
use Rattle.texts.proofs.+put_digits.Goals as goal

pub bounds-out-last : goal.bounds-out-last
bounds-out-last t c =
    omega (arith, c.requires, c.put_digits-last.auto.out, simp length_digits at c.put_digits-last.ensures.ends)

pub returns : goal.returns
returns t c =
    let others = c.put_digits-last in
    let room : others.result < length others.new.out =
    omega (arith, c.requires, others.auto.out, simp length_digits at others.ensures.ends) in
    wrote_digit c.args.out.now others.new.out c.args.at others.result c.args.number c.args.count c.hex_glyph.result
    (omega (arith, c.requires)) room (omega arith) c.hex_glyph.ensures others.ensures
