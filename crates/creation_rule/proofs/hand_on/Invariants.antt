-- The places before the loop's offset are handed on.
use Rattle.interface.specs.Creations.{hand_on}
use Rattle.places.specs.Table.{Sized}
use Rattle.creation_rule.specs.CreationRule.{Hands}
use Rattle.creation_rule.proofs.hand_on.Given as goal

abbrev pub invariant-loop-offset : goal.invariant-loop-offset
invariant-loop-offset l = record {
  sized : Sized l.table;
  handed : Hands (hand_on l.from l.to l.range.base l.offset l.range.mask) l.initial.table l.table;
}
