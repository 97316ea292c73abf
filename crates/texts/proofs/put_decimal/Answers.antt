-- The fewest digits that hold a number are the number in decimal.
use Rattle.texts.proofs.DecimalLaws.{fewest_is_decimal}
use Rattle.texts.proofs.put_decimal.Goals as goal

pub put-requires : goal.put-requires
put-requires c = let made = c.decimal-count in
    rw (fewest_is_decimal c.args.number made.result _ c.ranges.number.fits made.ensures.len made.ensures.digits) c.requires

pub returns : goal.returns
returns c = let made = c.decimal-count in
    rw (fewest_is_decimal c.args.number made.result _ c.ranges.number.fits made.ensures.len made.ensures.digits) at c.put.ensures
