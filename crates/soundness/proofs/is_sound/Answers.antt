-- Each way out but the last is a part of the tables that breaks a rule; once the lengths and the records are right the places decide.
use Prim.Native.Nat.{ℕ}
use mathlib.Core.Bool.{true, false, not}
use mathlib.Core.Path.{◌≡◌, sym, ap, ◌∙◌}
use native.Mathlib.Omega.{arith}
use borrow.Author.Rules.{rules}
use Rattle.words.specs.Sizes.{stride}
use Rattle.interface.specs.Basics.{all_below}
use Rattle.interface.specs.Places.{places_in}
use Rattle.interface.specs.Damage.{fixed_place}
use Rattle.interface.proofs.Basics.LoopLaws.{answered_yes}
use Rattle.soundness.proofs.KeepingLaws.{places_right, objects_right, numbered_so, kept_so, sizes_broken, pds_broken, records_broken, hypervisor_broken, places_decide}
use Rattle.soundness.proofs.is_sound.Goals as goal
use Rattle.soundness.proofs.is_sound.Goals.{then-records_keep, else-records_keep}

pub returns-then-not-are_sized : goal.returns-then-not-are_sized
returns-then-not-are_sized c = search (sizes_broken, rules)

pub pds_in_turn-requires : goal.pds_in_turn-requires
pds_in_turn-requires c = search (objects_right, rules)

pub returns-in_default : goal.returns-in_default
returns-in_default c = pds_broken _ _ c.pds_in_turn.ensures c.in_default.is

pub records_keep-requires : goal.records_keep-requires
records_keep-requires c =
    numbered_so _ _ _ c.are_sized.ensures (ap not c.if-not-are_sized.false) _ c.pds_in_turn.ensures c.in-Some.is

pub hypervisor_keeps-requires : goal.hypervisor_keeps-requires
hypervisor_keeps-requires c = search (places_right, rules)

pub places_keep-requires : goal.places_keep-requires
places_keep-requires c =
    let numbered =
    numbered_so _ _ _ c.are_sized.ensures (ap not c.if-not-are_sized.false) _ c.pds_in_turn.ensures c.in-Some.is in
    let kept : (c.records_keep.result ≡ true) × (all_below stride (fixed_place (places_in c.args.places.now)) ≡ true) =
    elim c.if-records_keep.branch [
      | then-records_keep w ↦ (w.if-records_keep.true, sym w.hypervisor_keeps.ensures ∙ sym w.value-is ∙ c.if-hypervisor_keeps.true)
      | else-records_keep w ↦ let never : ◌≡◌ {A = ℕ} 0 1 = cc in absurd (omega arith)
    ] in (
      search (places_right, rules),
      kept_so numbered _ c.records_keep.ensures (ap not kept.0),
      kept.1,
    )

pub returns-then-hypervisor_keeps : goal.returns-then-hypervisor_keeps
returns-then-hypervisor_keeps c =
    let numbered =
    numbered_so _ _ _ c.are_sized.ensures (ap not c.if-not-are_sized.false) _ c.pds_in_turn.ensures c.in-Some.is in
    let kept : c.records_keep.result ≡ true =
    elim c.if-records_keep.branch [
      | then-records_keep w ↦ w.if-records_keep.true
      | else-records_keep w ↦ sym w.value-is ∙ c.if-hypervisor_keeps.true
    ] in
    places_decide _ _ (answered_yes _ _ c.are_sized.ensures (ap not c.if-not-are_sized.false)) (kept_so numbered _ c.records_keep.ensures (ap not kept)) c.places_keep.ensures

pub returns-else-hypervisor_keeps : goal.returns-else-hypervisor_keeps
returns-else-hypervisor_keeps c =
    elim c.if-records_keep.branch [
      | then-records_keep w ↦
          let broken : w.hypervisor_keeps.result ≡ false = sym w.value-is ∙ c.if-hypervisor_keeps.false in
          c.if-hypervisor_keeps.false ∙ hypervisor_broken _ _ w.hypervisor_keeps.ensures (ap not broken)
      | else-records_keep w ↦ c.if-hypervisor_keeps.false ∙ records_broken _ _ c.records_keep.ensures (ap not w.if-records_keep.false)
    ]
