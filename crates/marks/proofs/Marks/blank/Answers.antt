-- Words that are 0, since the table has its length.
use Prim.Native.Nat.{◌-◌}
use mathlib.Core.Path.{◌≡◌}
use native.Mathlib.Omega.{arith}
use lib.ListN.{length}
use Rattle.interface.specs.Places.{place_table_words}
use Rattle.marks.specs.PlaceBits.{mark_words}
use Rattle.marks.proofs.PlaceBitLaws.{blank_bit}
use Rattle.marks.proofs.Marks.blank.Goals as goal

pub returns : goal.returns
returns c = let zero : length c.args.table.now - place_table_words ≡ 0 = omega (arith, c.requires) in rw zero (blank_bit mark_words)
