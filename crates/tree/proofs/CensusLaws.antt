-- Laws of the census: whose descendants the marked places are, and what each way out of a census leaves.
use Rattle.std.specs.Prelude.{Option, Some, None, Ok, Err}
use Prim.Native.Nat.{ℕ, ◌≤◌, ◌<◌}
use mathlib.Core.Path.{◌≡◌, sym, ap, ◌∙◌}
use mathlib.Core.Bool.{Bool, true, false, not}
use mathlib.Core.List.{List, ◌++◌}
use native.Mathlib.Omega.{arith}
use lib.Dec.{leb, ltb}
use lib.ListN.{length, drop}
use borrow.Author.Tests.{ltb-true, ltb-false, lt-ltb, le-ltb, le-leb, lt-leb, not-true, not-false}
use Rattle.words.specs.Sizes.{places, space_of}
use Rattle.layout.specs.declared.Place.{Place}
use Rattle.reply.specs.declared.Refusal.TheVariants.{BadPar, BadCap, Short}
use Rattle.layout.specs.Numbers.{placed}
use Rattle.layout.proofs.NumberLaws.{placed_at, placed_inside}
use Rattle.interface.specs.Places.{Cap, live, cap_at, places_in}
use Rattle.interface.specs.Effects.{below}
use Rattle.interface.specs.Census.{descendants, counted}
use Rattle.interface.proofs.Basics.BoolLaws.{cases}
use Rattle.interface.proofs.Basics.GatherLaws.{gather_same}
use Rattle.marks.specs.PlaceBits.{bit_at, marked_places}
use Rattle.descent.specs.Walks.{InSpace, Marked}

-- the marked places are the descendants of the place that the marks were found for
pub marked_descendants : (caps : ℕ → Cap) (place : ℕ) {marks : List ℕ} → Marked (below caps place 1) marks → marked_places marks ≡ descendants caps place
unfolding descendants
marked_descendants caps place {marks} are_marks = gather_same places (bit_at marks) (below caps place 1) (λ p l. are_marks.told p l)

-- a place alone is of one space
pub alone : (place : ℕ) → place < places → InSpace place 1
alone place l =
    record {
      first_place = l;
      ends = omega arith;
      one_space = λ p low high. let here : p ≡ place = omega arith in ap space_of here;
    }

-- a word that names a place is its number, and one that names none lies past the places
module _ (place : ℕ) {found : (Option Place)} (is_found : found ≡ placed place) where
  named_inside : (at : Place) → found ≡ Some at → (at.0 ≡ place) × (place < places)
  named_inside at there = placed_inside place at (sym is_found ∙ there)

  pub named_small : (at : Place) → found ≡ Some at → at.0 < places
  named_small at there = rw (named_inside at there).0 (named_inside at there).1

  past_places : found ≡ None → places ≤ place
  past_places none =
      cases (ltb place places)
      (λ (t : ltb place places ≡ true).
      let never : ◌≡◌ {A = ℕ} 0 1 = cc (placed_at place (ltb-true place places t)) in
      absurd (omega arith))
      (λ (f : ltb place places ≡ false). ltb-false place places f)

-- the ways out of a census
module _ (table : List ℕ) (place : ℕ) (list : List ℕ) {found : (Option Place)} (is_found : found ≡ placed place) where
  pub counts_beyond : found ≡ None → record { reply = Err BadPar; list = list } ≡ counted (places_in table) place list
  unfolding counted
  counts_beyond none = rw (le-leb places place (past_places place is_found none))

  module _ {at : Place} {cap : Cap} {alive : Bool} (there : found ≡ Some at) (is_cap : cap ≡ cap_at table at.0) (is_alive : alive ≡ live cap) where
    is_place : leb places place ≡ false
    is_place = lt-leb places place (named_inside place is_found at there).1

    is_live : live (cap_at table place) ≡ alive
    is_live = sym (is_alive ∙ ap live (is_cap ∙ ap (cap_at table) (named_inside place is_found at there).0))

    pub counts_null : not alive ≡ true → record { reply = Err BadCap; list = list } ≡ counted (places_in table) place list
    unfolding counted
    counts_null t = rw (is_place, is_live, not-true alive t)

    module _ {count : ℕ} (lives : not alive ≡ false) (counted_there : count ≡ length (descendants (cap_at table) at.0)) where
      is_count : count ≡ length (descendants (cap_at table) place)
      is_count = rw (named_inside place is_found at there).0 at counted_there

      pub counts_short : length list < count → record { reply = Err (Short count); list = list } ≡ counted (places_in table) place list
      unfolding counted
      counts_short l =
          let short : length list < length (descendants (cap_at table) place) = rw is_count at l in
          rw (is_count, is_place, is_live, not-false alive lives, lt-ltb _ _ short)

      pub counts_all : {after : List ℕ} → count ≤ length list →
          after ≡ descendants (cap_at table) at.0 ++ drop (length (descendants (cap_at table) at.0)) list →
          record { reply = Ok count; list = after } ≡ counted (places_in table) place list
      unfolding counted
      counts_all l filled =
          let e = rw (named_inside place is_found at there).0 at filled in
          let fits : length (descendants (cap_at table) place) ≤ length list = rw is_count at l in
          rw (is_count, e, is_place, is_live, not-false alive lives, le-ltb _ _ fits)
