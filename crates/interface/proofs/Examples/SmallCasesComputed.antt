-- The small cases, by computation.
use Rattle.std.specs.Prelude.{Some, None}
use Prim.Native.Nat.{ℕ, ◌+◌, ◌≤◌}
use mathlib.Core.Path.{◌≡◌, refl, ◌∙◌}
use mathlib.Core.Bool.{true, false, ◌||◌}
use mathlib.Core.List.{[], ◌∷◌}
use native.Mathlib.Omega.{arith}
use Rattle.words.specs.Sizes.{places}
use Rattle.reply.specs.declared.Fault.TheVariants.{AtRecord}
use Rattle.interface.specs.Basics.{put, listed, lowest}
use Rattle.interface.specs.Places.{Cap}
use Rattle.interface.specs.Boot.{boot}
use Rattle.interface.specs.Damage.{rules_of_damage, first_fault, sound_state}
use Rattle.interface.specs.Effects.{among}
use Rattle.interface.specs.History.{latest, standing, held, origins, place_link, held_cap, held_among, cut_filling, note, note_all, came_from, heir}
use Rattle.interface.specs.Examples.{Each}
use Rattle.interface.specs.SmallCases.{place_changed, record_changed, records_changed, places_changed, deep_line, fault_of, damage_cases, reason_cases, SmallCases}
use Rattle.interface.proofs.Basics.BoolLaws.{not_both}
use Rattle.interface.proofs.Basics.PutLaws.{put_other}
use Rattle.interface.proofs.Sound.Soundness.{damage_rules, tested_sound}
use Rattle.interface.proofs.History.BootLaws.{utcb_place, information_place, boot_tables_lem, boot_sound}
use Rattle.interface.proofs.Consequences.DamageReportLaws.{kept_none}
use Rattle.interface.proofs.Examples.Shared.{◌and◌, descriptors, steps, items}
use Rattle.interface.proofs.Examples.FaultLaws.{record_fault, record_fault_lem, place_fault, place_rules, place_fault_lem}

-- the first fault of boot's state with one place changed, with two, and with a line of delegations, is that of the places there
module _ (first size : ℕ) (cap : Cap) (fit : first + size ≤ places) (is_first : among first size first ≡ true)
    (parents_apart : (among first size utcb_place || among first size information_place) ≡ false) where
  other_place : (changed p : ℕ) → among first size changed ≡ true → among first size p ≡ false → p ≡ changed → ⊥
  other_place changed p t f e = not_both (among first size p) (rw e t) f

  one_changed : fault_of (place_changed boot first cap) ≡ place_fault first size (place_changed boot first cap) place_rules
  one_changed =
      place_fault_lem (put boot.caps first cap) first size fit (λ p f. put_other boot.caps first cap p (other_place first p is_first f)) parents_apart

  two_changed : (second : ℕ) → among first size second ≡ true →
      fault_of (places_changed first second cap) ≡ place_fault first size (places_changed first second cap) place_rules
  two_changed second is_second =
      place_fault_lem (put (put boot.caps second cap) first cap) first size fit
      (λ p f.
      put_other (put boot.caps second cap) first cap p (other_place first p is_first f)
      ∙ put_other boot.caps second cap p (other_place second p is_second f))
      parents_apart

line_changed : (delegations : ℕ) → 384 + delegations ≤ places → fault_of (deep_line delegations) ≡ place_fault 384 delegations (deep_line delegations) place_rules
line_changed delegations fit = place_fault_lem (deep_line delegations).caps 384 delegations fit (λ p f. rw f) refl

-- an EC with the greatest event base is no damage
ec_changed : fault_of (record_changed boot 31 (2 ∷ 1 ∷ 0 ∷ 255 ∷ 0 ∷ [])) ≡ None
unfolding damage_rules boot_tables_lem put sound_state
ec_changed =
    kept_none (record_changed boot 31 (2 ∷ 1 ∷ 0 ∷ 255 ∷ 0 ∷ [])) rules_of_damage
    (tested_sound (record_changed boot 31 (2 ∷ 1 ∷ 0 ∷ 255 ∷ 0 ∷ [])) (refl and refl and refl and refl and refl and refl and refl and refl and tt) (refl and refl and refl and refl and tt))

damage_cases_lem : Each damage_cases
unfolding damage_rules boot_tables_lem put lowest record_fault place_fault
damage_cases_lem =
    record_fault_lem _ _ _ refl and record_fault_lem _ _ _ refl and record_fault_lem _ _ _ refl and record_fault_lem _ _ _ refl and record_fault_lem _ _ _ refl and
    record_fault_lem _ _ _ refl and record_fault_lem _ _ _ refl and record_fault_lem _ _ _ refl and ec_changed and record_fault_lem _ _ _ refl and record_fault_lem _ _ _ refl and
    record_fault_lem _ _ _ refl and record_fault_lem _ _ _ refl and record_fault_lem _ _ _ refl and record_fault_lem _ _ _ refl and (one_changed 392 1 _ (omega arith) refl refl ∙ refl) and
    (one_changed 392 1 _ (omega arith) refl refl ∙ refl) and (one_changed 392 1 _ (omega arith) refl refl ∙ refl) and (one_changed 447 1 _ (omega arith) refl refl ∙ refl) and
    (two_changed 446 2 _ (omega arith) refl refl 447 refl ∙ refl) and (line_changed 64 (omega arith) ∙ refl) and (line_changed 63 (omega arith) ∙ refl) and tt

-- a record that changed comes before places that did
record_before : fault_of (records_changed (places_changed 9 11 (record { resource = 9; permissions = 1; parent = 0; depth = 0 })) 2 3) ≡ Some (AtRecord 2 2)
unfolding damage_rules boot_tables_lem put lowest first_fault
record_before = refl

boot_faultless : fault_of boot ≡ None
unfolding sound_state
boot_faultless = kept_none boot rules_of_damage boot_sound

-- to unfold this is to unfold what the cases of the history compute by
unfoldable small_definitions : Unit {0}
unfolding listed steps latest standing held origins place_link held_cap held_among cut_filling note note_all came_from heir
small_definitions = tt

reason_cases_lem : Each reason_cases
unfolding descriptors boot_tables_lem steps listed items
reason_cases_lem =
    refl and refl and refl and refl and refl and refl and refl and refl and refl and refl and refl and refl and refl and refl and refl and tt

pub small_cases : SmallCases
unfolding small_definitions items damage_rules boot_tables_lem put lowest record_fault place_fault
small_cases =
    refl and refl and refl and refl and refl and refl and refl and refl and refl and refl and refl and refl and refl and refl and refl and refl and refl and reason_cases_lem and boot_faultless and
    (two_changed 9 3 _ (omega arith) refl refl 11 refl ∙ refl) and record_before and record_fault_lem _ _ _ refl and (two_changed 1000 2 _ (omega arith) refl refl 1001 refl ∙ refl) and damage_cases_lem and tt
