-- A walk along a chain whose places that keep the rules are marked: each step leaves one place less to look at.
use Rattle.std.specs.Prelude.{Option, Some, None, if◌then◌else◌}
use Prim.Native.Nat.{ℕ, suc, ◌+◌, ◌-◌, ◌≤◌, ◌<◌}
use mathlib.Core.Path.{◌≡◌, sym, ap, ◌∙◌}
use mathlib.Core.Bool.{Bool, true, false, not, ◌&&◌}
use mathlib.Core.List.{List}
use native.Mathlib.Omega.{arith}
use lib.Dec.{eqb, leb}
use borrow.Author.Tests.{eqb-true, eqb-false, ne_eqb, not-true, not-false}
use Rattle.words.specs.Sizes.{places, greatest_depth}
use Rattle.layout.specs.declared.Place.{Place}
use Rattle.layout.specs.Numbers.{linked}
use Rattle.layout.proofs.NumberLaws.{linked_inside, linked_out}
use Rattle.interface.specs.Places.{Cap, State, live, cap_at, view}
use Rattle.interface.specs.Damage.{live_place, shallow}
use Rattle.interface.proofs.Basics.BoolLaws.{cases, and_left}
use Rattle.interface.proofs.Sound.PlaceFacts.{ChildOf, live_facts}
use Rattle.marks.specs.PlaceBits.{bit_at}
use Rattle.descent.specs.Walks.{Marked}
use Rattle.repair_rules.specs.Repair.{whole_within, whole}
use Rattle.repair_rules.proofs.ChainLaws.{parent_above}
use Rattle.repair.specs.Mending.{link_keeps, ToldWhole}

-- the rules of a place, by the words that were loaded
pub link_told : (table objects : List ℕ) (p : ℕ) (cap : Cap) (answer : Bool) → cap ≡ cap_at table p → answer ≡ live_place (view table objects) p →
    (answer && leb cap.depth greatest_depth) ≡ link_keeps (view table objects) p
unfolding shallow
link_told table objects p cap answer is_cap a = rw (a, is_cap)

-- one step of a walk
module _ (s : State) (left p : ℕ) (more : 0 < left) where
  step : whole_within left s p ≡ (live_place s p && shallow s p && (if eqb (s.caps p).parent 0 then true else whole_within (left - 1) s ((s.caps p).parent - 1)))
  unfolding whole_within
  step = let e : left ≡ suc (left - 1) = omega arith in ap (λ (n : ℕ). whole_within n s p) e

  pub step_broken : link_keeps s p ≡ false → whole_within left s p ≡ false
  step_broken f = step ∙ (rw f)

  pub step_on : (q : ℕ) → link_keeps s p ≡ true → (s.caps p).parent ≡ q + 1 → whole_within left s p ≡ whole_within (left - 1) s q
  step_on q t e =
      let up : (s.caps p).parent - 1 ≡ q = omega arith in
      step ∙ (rw (t, ne_eqb (s.caps p).parent 0 (omega arith), up))

  pub step_ends : link_keeps s p ≡ true → (s.caps p).parent ≡ 0 → whole_within left s p ≡ true
  step_ends t e = step ∙ (rw (t, e))

-- the parent of a live place that keeps the rules
module _ (s : State) (p : ℕ) (keeps : link_keeps s p ≡ true) (alive : live (s.caps p) ≡ true) where
  pub parent_of : ((s.caps p).parent ≡ 0 → ⊥) → ChildOf s p ((s.caps p).parent - 1)
  parent_of some = parent_above s p (live_facts s p (and_left (live_place s p) (shallow s p) keeps) alive).lineage some

  pub no_parent_of : linked (s.caps p).parent ≡ None → (s.caps p).parent ≡ 0
  no_parent_of none =
      cases (eqb (s.caps p).parent 0) (λ (t : eqb (s.caps p).parent 0 ≡ true). eqb-true (s.caps p).parent 0 t)
      (λ (f : eqb (s.caps p).parent 0 ≡ false).
      let some = eqb-false (s.caps p).parent 0 f in
      linked_out (s.caps p).parent none (omega (arith, (parent_of some).is_place)))

-- a walk from one place has come to another, with so many places left to look at
module _ (table links : List ℕ) (first : ℕ) where
  abbrev pub Walked : ℕ → ℕ → Type 0
  Walked at left =
      (objects : List ℕ) → Marked (link_keeps (view table objects)) links →
      (live (cap_at table at) ≡ true) × (whole (view table objects) first ≡ whole_within left (view table objects) at)

  pub walk_starts : {left : ℕ} → live (cap_at table first) ≡ true → left ≡ greatest_depth + 1 → Walked first left
  unfolding whole
  walk_starts alive e objects links_told = (alive, ap (λ (n : ℕ). whole_within n (view table objects) first) (sym e))

  module _ (at left : ℕ) (so_far : Walked at left) (small : at < places) (more : 0 < left) where
    pub walk_broken : (set : Bool) → set ≡ bit_at links at → not set ≡ true → ToldWhole table links first false
    walk_broken set e f =
        record {
          whole_told =
              λ objects told.
              sym
              ((so_far objects told).1 ∙
              step_broken (view table objects) left at more (sym (told.told at small) ∙ sym e ∙ not-true set f));
        }

    module _ (set : Bool) (is_set : set ≡ bit_at links at) (holds : not set ≡ false) {found : (Option Place)} (is_found : found ≡ linked (cap_at table at).parent) where
      keeps : (objects : List ℕ) → Marked (link_keeps (view table objects)) links → link_keeps (view table objects) at ≡ true
      keeps objects told = sym (told.told at small) ∙ sym is_set ∙ not-false set holds

      pub walk_ends : found ≡ None → ToldWhole table links first true
      walk_ends none =
          record {
            whole_told =
                λ objects told.
                let s = view table objects in
                let here = so_far objects told in
                let nowhere : linked (s.caps at).parent ≡ None = sym is_found ∙ none in
                sym (here.1 ∙ step_ends s left at more (keeps objects told) (no_parent_of s at (keeps objects told) here.0 nowhere));
          }

      pub walk_above : {above : Place} → found ≡ Some above → above.0 < places
      walk_above leads = (linked_inside (cap_at table at).parent _ (sym is_found ∙ leads)).1

      pub walk_on : {above : Place} → found ≡ Some above → Walked above.0 (left - 1)
      walk_on {above} leads objects told =
          let s = view table objects in
          let here = so_far objects told in
          let up : (s.caps at).parent ≡ above.0 + 1 = (linked_inside (cap_at table at).parent above (sym is_found ∙ leads)).0 in
          let c = parent_of s at (keeps objects told) here.0 (omega arith) in
          let same : (s.caps at).parent - 1 ≡ above.0 = omega arith in
          (rw same at c.alive, here.1 ∙ step_on s left at more above.0 (keeps objects told) up)

  pub walk_over : (at left : ℕ) → left ≤ 0 → Walked at left → ToldWhole table links first false
  unfolding whole_within
  walk_over at left none so_far =
      let zero_left : left ≡ 0 = omega arith in
      record { whole_told = λ objects told. sym ((so_far objects told).1 ∙ ap (λ (n : ℕ). whole_within n (view table objects) at) zero_left) }
