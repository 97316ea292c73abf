-- The loop's invariant: the fault of the tables is the first among the rules from this one on.
use Prim.Native.Nat.{◌+◌, ◌≤◌}
use mathlib.Core.Path.{◌≡◌}
use Rattle.interface.specs.Places.{tables, view}
use Rattle.interface.specs.Damage.{first_fault, fault}
use Rattle.soundness.specs.RuleNumbers.{first_rule, last_rule}
use Rattle.soundness.proofs.FaultLaws.{rules_from}
use Rattle.soundness.proofs.first_fault.Given as goal

abbrev pub invariant-loop-rule : goal.invariant-loop-rule
invariant-loop-rule l = (first_rule ≤ l.rule) × (l.rule ≤ last_rule + 1) × (fault (tables l.places l.objects) ≡ first_fault (view l.places l.objects) (rules_from l.rule))
