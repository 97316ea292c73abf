-- A byte stored after a number is written after it.
use Prim.Native.Nat.{◌≤◌, ◌<◌}
use native.Mathlib.Omega.{arith}
use lib.ListN.{length}
use Rattle.interface.specs.Journal.{decimal}
use Rattle.texts.proofs.TextLaws.{wrote_byte}
use Rattle.texts.proofs.put_number.Goals as goal

pub returns : goal.returns
returns c = let put = c.put_decimal-end in
    let fits : c.args.at ≤ length c.args.out.now = omega (arith, c.requires) in
    let room : put.result < length put.new.out = omega (arith, c.requires, put.ensures.ends, put.auto.out) in
    wrote_byte c.args.out.now put.new.out (decimal c.args.number) c.args.at put.result c.args.after fits room put.ensures
