-- The loop's invariant: the count is that of the PDs before the record, and each of these keeps the rule.
use Prim.Native.Nat.{◌≤◌}
use mathlib.Core.Path.{◌≡◌}
use mathlib.Core.Bool.{true}
use Rattle.interface.specs.Basics.{all_below}
use Rattle.interface.specs.Damage.{pds_below, pd_rule}
use Rattle.record_rules.specs.RecordKeeping.{records_in}
use Rattle.record_rules.proofs.pds_in_turn.Given as goal

abbrev pub invariant-loop-at : goal.invariant-loop-at
invariant-loop-at l =
    (l.at ≤ l.used) × (l.before ≡ pds_below (records_in l.objects) l.at) × (all_below l.at (pd_rule (records_in l.objects)) ≡ true)
