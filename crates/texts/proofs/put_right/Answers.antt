-- There are as many blanks as the number's digits leave of the width.
use Prim.Native.Nat.{◌+◌, ◌-◌}
use mathlib.Core.Path.{refl}
use native.Mathlib.Omega.{arith}
use Rattle.interface.specs.Journal.{decimal}
use Rattle.texts.proofs.DecimalLaws.{fewest_is_decimal, fewest_is_length}
use Rattle.texts.proofs.TextLaws.{length_padded, blanks_written, wrote_right}
use Rattle.texts.proofs.put_right.Goals as goal

pub overflow_add-start : goal.overflow_add-start
overflow_add-start c =
    let made = c.decimal-count in
    let number = c.args.number in
    omega (arith, c.requires, fewest_is_length number made.result c.ranges.number.fits made.ensures.len, length_padded c.args.width (decimal number))

pub put-requires : goal.put-requires
put-requires c =
    let made = c.decimal-count in
    let number = c.args.number in
    let end = c.args.at + c.saturating_sub.result in
    let whole = fewest_is_length number made.result c.ranges.number.fits made.ensures.len in
    let long = length_padded c.args.width (decimal number) in
    let same = (blanks_written c.args.out.now c.fill.new.self c.args.at end c.saturating_sub.result refl (omega (arith, c.requires)) (c.fill.ensures.after (λ y e. e))).1 in
    rw (fewest_is_decimal number made.result _ c.ranges.number.fits made.ensures.len made.ensures.digits) (omega (arith, c.requires, same))

pub returns : goal.returns
returns c =
    let made = c.decimal-count in
    let number = c.args.number in
    let end = c.args.at + c.saturating_sub.result in
    let whole = fewest_is_length number made.result c.ranges.number.fits made.ensures.len in
    let long = length_padded c.args.width (decimal number) in
    let blanks = blanks_written c.args.out.now c.fill.new.self c.args.at end (c.args.width - made.result) (omega (arith, c.saturating_sub.ensures)) (omega (arith, c.requires))
    (c.fill.ensures.after (λ y e. e)) in
    wrote_right c.args.width made.result (decimal number) (omega (arith, c.requires)) whole blanks.0
    (rw (fewest_is_decimal number made.result _ c.ranges.number.fits made.ensures.len made.ensures.digits) at c.put.ensures)
