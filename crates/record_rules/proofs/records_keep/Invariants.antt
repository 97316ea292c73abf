-- The first free record decides all that follow. The loop's invariant: each record passed keeps the rules.
use Prim.Native.Nat.{◌≤◌}
use mathlib.Core.Path.{◌≡◌}
use mathlib.Core.Bool.{true}
use Rattle.words.specs.Sizes.{records}
use Rattle.interface.specs.Basics.{all_below}
use Rattle.record_rules.specs.RecordKeeping.{records_in, record_keeps}
use Rattle.record_rules.proofs.records_keep.Given as goal

abbrev pub invariant-loop-at : goal.invariant-loop-at
invariant-loop-at l = (l.at ≤ records) × (all_below l.at (record_keeps (records_in l.objects)) ≡ true)
