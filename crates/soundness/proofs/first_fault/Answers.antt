-- The loop's invariant: the fault of the tables is the first among the rules from this one on.
use mathlib.Core.Path.{refl}
use native.Mathlib.Omega.{arith}
use borrow.Author.Rules.{rules}
use Rattle.words.specs.Sizes.{places, records}
use Rattle.soundness.proofs.LowestLaws.{failing_there, failing_nowhere}
use Rattle.soundness.proofs.KeepingLaws.{places_right, objects_right}
use Rattle.soundness.proofs.FaultLaws.{fault_lengths, fault_starts, fault_record, fault_place, fault_next, fault_none}
use Rattle.soundness.proofs.first_fault.Goals as goal

pub returns-then-not-are_sized : goal.returns-then-not-are_sized
returns-then-not-are_sized c = search (fault_lengths, rules)

pub loop-rule-init : goal.loop-rule-init
loop-rule-init c = search (fault_starts, rules)

pub lowest_record-requires : goal.lowest_record-requires
lowest_record-requires c = search (objects_right, rules)

pub returns-in-Some : goal.returns-in-Some
returns-in-Some c =
    let (small, lowest_r) = failing_there records _ _ _ c.lowest_record.ensures c.in-Some.is in
    let inv = c.loop-rule.invariant in
    fault_record _ _ _ inv.0 (omega arith) lowest_r inv.2 small

pub lowest_place-requires : goal.lowest_place-requires
lowest_place-requires c = search (places_right, objects_right, rules)

pub returns-in-Some-lowest_place : goal.returns-in-Some-lowest_place
returns-in-Some-lowest_place c =
    let (small, lowest_p) = failing_there places _ _ _ c.lowest_place.ensures c.in-Some-lowest_place.is in
    let none = failing_nowhere records _ _ c.lowest_record.ensures c.in_default.is in
    let inv = c.loop-rule.invariant in
    fault_place _ _ _ inv.0 (omega arith) refl inv.2 _ none lowest_p small

pub loop-rule-preserved : goal.loop-rule-preserved
loop-rule-preserved c =
    let none = failing_nowhere records _ _ c.lowest_record.ensures c.in_default.is in
    let no_place = failing_nowhere places _ _ c.lowest_place.ensures c.in_default-lowest_place.is in
    let inv = c.loop-rule.invariant in
    (omega arith, omega arith, fault_next _ _ _ inv.0 (omega arith) refl inv.2 _ none refl no_place)

pub returns : goal.returns
returns c = search (fault_none, rules)
