-- The rules of places as the code tests them: what each definition gives on each way out of the function that tests it.
use Rattle.std.specs.Prelude.{Option, Some, None}
use Prim.Native.Nat.{ℕ, ◌+◌, ◌-◌, ◌*◌, ◌%◌, ◌^◌, ◌≤◌, ◌<◌}
use mathlib.Core.Path.{◌≡◌, refl, sym, ap, ◌∙◌}
use mathlib.Core.Bool.{Bool, true, false, ◌&&◌, ◌||◌, and-false}
use native.Mathlib.Omega.{arith}
use lib.Dec.{eqb, leb, ltb}
use borrow.Author.Tests.{ltb-true, leb-true, leb-false, lt-ltb, le-ltb, le-leb, lt-leb, eqb-true, eqb-false, eq-eqb, ne_eqb}
use Rattle.words.specs.Sizes.{memory, io, object, spaces, page_order, selectors, start, stride, place_of, domain_of, space_of, places, records, greatest_depth}
use Rattle.words.specs.Permissions.{within}
use Rattle.words.proofs.PlaceLaws.{space_back, made_so, selector_small}
use Rattle.layout.specs.declared.Place.{Place}
use Rattle.layout.specs.Numbers.{linked}
use Rattle.layout.proofs.NumberLaws.{linked_out, linked_inside}
use Rattle.interface.specs.Places.{Cap, State, live, nothing, free, kind_of, greatest_of, greatest}
use Rattle.interface.specs.Boot.{hypervisor, boot_cap}
use Rattle.interface.specs.Damage.{same_cap, fixed_place, has_pd, null_place, is_resource, live_place, shallow, parent_fits, lineage_keeps}
use Rattle.interface.proofs.Basics.BoolLaws.{cases, and_left, and_right, both, same_test, each_of_four}
use Rattle.interface.proofs.Sound.PlaceFacts.{more_live}
use Rattle.place_rules.specs.PlaceKeeping.{greatest_allowed, place_keeps, whole, part, parts_before, extent_of}
use Rattle.place_rules.specs.declared.Extent.{Extent}

-- two capabilities are equal exactly where they show the same
and_in_turn : (w x y z : Bool) → (w && (x && (y && z))) ≡ (w && x && y && z)
and_in_turn false x y z = refl
and_in_turn true false y z = refl
and_in_turn true true y z = refl

pub equal_same : (a b : Cap) →
    (eqb a.resource b.resource && (eqb a.permissions b.permissions && (eqb a.parent b.parent && eqb a.depth b.depth))) ≡ same_cap a b
equal_same a b =
    and_in_turn (eqb a.resource b.resource) (eqb a.permissions b.permissions) (eqb a.parent b.parent) (eqb a.depth b.depth)

-- a link word that leads to a place is one more than its number, and one that leads nowhere is 0 or past the places
module _ (word : ℕ) {found : (Option Place)} where
  pub link_before : (parent : Place) → found ≡ linked word → found ≡ Some parent → parent.0 ≡ word - 1
  link_before parent is_found leads = omega (arith, (linked_inside word parent (sym is_found ∙ leads)).0)

  pub link_past : (word ≡ 0 → ⊥) → found ≡ linked word → found ≡ None → places ≤ word - 1
  link_past some is_found none =
      cases (leb word places)
      (λ (t : leb word places ≡ true). absurd (some (linked_out word (sym is_found ∙ none) (leb-true word places t))))
      (λ (f : leb word places ≡ false). omega (arith, leb-false word places f))

-- a place that a link word leads to is one of the places
pub link_small : (word : ℕ) (parent : Place) (found : (Option Place)) → found ≡ linked word → found ≡ Some parent → parent.0 < places
link_small word parent found is_found leads = (linked_inside word parent (sym is_found ∙ leads)).1

-- the parts of its domain that come before a place are those of the places before it and fewer than one place's more, so they tell its space
module _ (place : ℕ) (l : place < places) where
  parts_so : parts_before place ≡ part * (place % stride) + (part * stride - whole) * domain_of place
  parts_so = omega arith

  pub extent_tells : (space : ℕ) → space < spaces →
      (leb (part * start space) (parts_before place) && ltb (parts_before place) (part * (start space + selectors space))) ≡ eqb (space_of place) space
  extent_tells space h =
      let before = parts_before place in
      let from = part * start space in
      let end = part * (start space + selectors space) in
      same_test (leb from before && ltb before end) (eqb (space_of place) space)
      (λ (t : (leb from before && ltb before end) ≡ true).
      let late : from ≤ before = leb-true from before (and_left (leb from before) (ltb before end) t) in
      let early : before < end = ltb-true before end (and_right (leb from before) (ltb before end) t) in
      let rest_from : start space ≤ place % stride = omega (arith, parts_so) in
      let rest_before : place % stride < start space + selectors space = omega (arith, parts_so) in
      let same : place_of (domain_of place) space (place % stride - start space) ≡ place = omega arith in
      let small : place % stride - start space < selectors space = omega arith in
      eq-eqb (space_of place) space (rw same at (space_back (domain_of place) space (place % stride - start space) h small)))
      (λ (t : eqb (space_of place) space ≡ true).
      let there : space_of place ≡ space = eqb-true (space_of place) space t in
      let made : domain_of place * stride + start space + (place % stride - start space) ≡ place = rw there at (made_so place) in
      let small : place % stride - start space < selectors space = rw there at (selector_small place) in
      both (leb from before) (ltb before end) (le-leb from before (omega (arith, parts_so))) (lt-ltb before end (omega (arith, parts_so))))

pub extent_space : (extent : Extent) (space : ℕ) → extent ≡ extent_of space → extent.space ≡ space
extent_space extent space e = ap (λ (x : Extent). x.space) e

pub extent_own : (extent : Extent) (space : ℕ) → extent ≡ extent_of space → extent ≡ extent_of extent.space
extent_own extent space e = rw e

pub of_extent : (place number : ℕ) (extent : Extent) → number ≡ place → place < places → extent.space < spaces → extent ≡ extent_of extent.space →
    (leb extent.from (parts_before number) && ltb (parts_before number) extent.end) ≡ eqb (space_of place) extent.space
of_extent place number extent numbered l h is_extent =
    let from : extent.from ≡ part * start extent.space = ap (λ (e : Extent). e.from) is_extent in
    let end : extent.end ≡ part * (start extent.space + selectors extent.space) = ap (λ (e : Extent). e.end) is_extent in
    rw (numbered, from, end) (extent_tells place l extent.space h)

-- domain 0 is the first stride
pub first_stride : (place : ℕ) → ltb place stride ≡ eqb (domain_of place) hypervisor
first_stride place =
    same_test (ltb place stride) (eqb (domain_of place) hypervisor)
    (λ (t : ltb place stride ≡ true). let l : place < stride = ltb-true place stride t in eq-eqb (domain_of place) hypervisor (omega arith))
    (λ (t : eqb (domain_of place) hypervisor ≡ true).
    let e : domain_of place ≡ hypervisor = eqb-true (domain_of place) hypervisor t in
    lt-ltb place stride (omega arith))

pub past_hypervisor : (place : ℕ) → stride ≤ place → eqb (domain_of place) hypervisor ≡ false
past_hypervisor place l = sym (first_stride place) ∙ le-ltb place stride l

-- the greatest permissions allowed of a number in a space
module _ (s : State) (space resource : ℕ) where
  pub allowed_object : (kind most : ℕ) → space ≡ object → resource < records → kind ≡ kind_of s resource → most ≡ greatest_of kind → most ≡ greatest_allowed s space resource
  allowed_object kind most e l known is_most =
      rw (is_most, known, e, lt-ltb resource records l)
      (cases (eqb (kind_of s resource) free)
      (λ (f : eqb (kind_of s resource) free ≡ true). rw (f, eqb-true (kind_of s resource) free f))
      (λ (u : eqb (kind_of s resource) free ≡ false). rw u))

  pub no_object : space ≡ object → records ≤ resource → 0 ≡ greatest_allowed s space resource
  no_object e l = rw (e, le-ltb resource records l)

  pub allowed_page : (most : ℕ) → space < spaces → (space ≡ object → ⊥) → resource < 2 ^ page_order → most ≡ greatest space free → most ≡ greatest_allowed s space resource
  allowed_page most h n l is_most =
      is_most ∙
      rw (ne_eqb space object n, lt-ltb resource (2 ^ page_order) l)
      (cases (eqb space memory) (λ (m : eqb space memory ≡ true). rw m)
      (λ (m : eqb space memory ≡ false).
      let i : space ≡ io = omega (arith, eqb-false space memory m) in
      rw (m, eq-eqb space io i)))

  pub no_page : (space ≡ object → ⊥) → 2 ^ page_order ≤ resource → 0 ≡ greatest_allowed s space resource
  no_page n l = rw (ne_eqb space object n, le-ltb resource (2 ^ page_order) l)

  -- a number that is no resource's allows no permission
  allowed_so : (permissions : ℕ) → 0 < permissions →
      (is_resource s space resource && leb permissions (greatest space (kind_of s resource))) ≡ leb permissions (greatest_allowed s space resource)
  allowed_so permissions some =
      cases (is_resource s space resource) (λ (t : is_resource s space resource ≡ true). rw t)
      (λ (f : is_resource s space resource ≡ false). rw f (sym (lt-leb permissions 0 some)))

module _ (s : State) (p : ℕ) where
  pub fixed_past : stride ≤ p → true ≡ fixed_place s p
  unfolding fixed_place
  fixed_past l = rw (past_hypervisor p l)

  pub fixed_same : (same : Bool) (a b : Cap) → p < stride → a ≡ s.caps p → b ≡ boot_cap p → same ≡ same_cap a b → same ≡ fixed_place s p
  unfolding fixed_place
  fixed_same same a b l e f h = h ∙ rw (← first_stride p, lt-ltb p stride l, e, f)

  -- the parent of a capability: a word other than 0 that leads nowhere names a number past the places
  pub parent_past : (space : ℕ) (cap : Cap) (q : ℕ) → places ≤ q → false ≡ parent_fits s space cap q
  parent_past space cap q l = rw (le-ltb q places l)

  pub parent_so : (space : ℕ) (cap : Cap) (q : ℕ) (above : Cap) (of_space inside : Bool) → 0 < cap.permissions → q < places → above ≡ s.caps q →
      of_space ≡ eqb (space_of q) space → inside ≡ within cap.permissions above.permissions →
      (of_space && eqb above.resource cap.resource && inside && eqb (above.depth + 1) cap.depth) ≡ parent_fits s space cap q
  parent_so space cap q above of_space inside some l e a h =
      cases (within cap.permissions above.permissions)
      (λ (t : within cap.permissions above.permissions ≡ true).
      let alive : live above ≡ true = more_live cap above t (lt-ltb 0 cap.permissions some) in
      rw (h, t, a, lt-ltb q places l, ← e, alive, t))
      (λ (f : within cap.permissions above.permissions ≡ false).
      rw (
        h,
        f,
        and-false (of_space && eqb above.resource cap.resource),
        ← e,
        f,
        and-false (ltb q places && live above && eqb (space_of q) space && eqb above.resource cap.resource),
      ))

  module _ (cap : Cap) (held : cap ≡ s.caps p) where
    pub lineage_none : (space : ℕ) → cap.parent ≡ 0 → space ≡ space_of p → (eqb cap.depth 0 && (eqb space object || ltb p stride)) ≡ lineage_keeps s p
    lineage_none space e a =
        let none : eqb (s.caps p).parent 0 ≡ true = rw held at (eq-eqb cap.parent 0 e) in
        rw (none, held, a, first_stride p)

    pub lineage_parent : (space : ℕ) (fits : Bool) (found : (Option Place)) (parent : Place) → (cap.parent ≡ 0 → ⊥) → space ≡ space_of p →
        found ≡ linked cap.parent → found ≡ Some parent → fits ≡ parent_fits s space cap parent.0 → fits ≡ lineage_keeps s p
    lineage_parent space fits found parent n a is_found leads h =
        let some : eqb (s.caps p).parent 0 ≡ false = rw held at (ne_eqb cap.parent 0 n) in
        (rw (link_before cap.parent parent is_found leads) at h) ∙ rw (a, held, some)

    pub lineage_nowhere : (space : ℕ) (found : (Option Place)) → (cap.parent ≡ 0 → ⊥) → space ≡ space_of p → found ≡ linked cap.parent → found ≡ None →
        false ≡ lineage_keeps s p
    lineage_nowhere space found n a is_found none =
        let some : eqb (s.caps p).parent 0 ≡ false = rw held at (ne_eqb cap.parent 0 n) in
        parent_past space cap (cap.parent - 1) (link_past cap.parent n is_found none) ∙ rw (a, held, some)

    -- a null place and rule 11, and rules 10 and 12
    pub live_null : cap.permissions ≡ 0 → true ≡ live_place s p
    unfolding live_place
    live_null e = let dead : live cap ≡ false = rw e in rw (← held, dead)

    pub null_test : (null : Bool) → null ≡ (live cap || same_cap cap nothing) → null ≡ null_place s p
    unfolding null_place
    null_test null h = rw (← held) h

    pub shallow_test : leb cap.depth greatest_depth ≡ shallow s p
    unfolding shallow
    shallow_test = rw held

    -- a live place
    module _ (home : Bool) (most space : ℕ) (alive : 0 < cap.permissions) (at_home : home ≡ (eqb (domain_of p) hypervisor || has_pd s (domain_of p)))
        (in_space : space ≡ space_of p) (bound : most ≡ greatest_allowed s space cap.resource) where
      bound_there : (is_resource s (space_of p) cap.resource && leb cap.permissions (greatest (space_of p) (kind_of s cap.resource))) ≡ leb cap.permissions most
      bound_there = allowed_so s (space_of p) cap.resource cap.permissions alive ∙ rw (bound, in_space)

      pub live_out : (home && leb cap.permissions most) ≡ false → (home && leb cap.permissions most) ≡ live_place s p
      unfolding live_place
      live_out h =
          h ∙
          rw (← held, lt-ltb 0 cap.permissions alive, ← at_home)
          (cases home
          (λ (t : home ≡ true).
          let above : leb cap.permissions most ≡ false = rw t at h in
          rw (t, bound_there, above))
          (λ (f : home ≡ false). rw f))

      pub live_lineage : (lineage : Bool) → (home && leb cap.permissions most) ≡ true → lineage ≡ lineage_keeps s p → lineage ≡ live_place s p
      unfolding live_place
      live_lineage lineage kept h =
          let is_home : home ≡ true = and_left home (leb cap.permissions most) kept in
          let within_bound : leb cap.permissions most ≡ true = and_right home (leb cap.permissions most) kept in
          h ∙ rw (← held, lt-ltb 0 cap.permissions alive, ← at_home, is_home, bound_there, within_bound)

-- a place that keeps the rules together keeps each
module _ (s : State) where
  pub place_parts : (p : ℕ) → place_keeps s p ≡ true →
      (fixed_place s p ≡ true) × (null_place s p ≡ true) × (live_place s p ≡ true) × (shallow s p ≡ true)
  unfolding place_keeps
  place_parts p h = each_of_four (fixed_place s p) (null_place s p) (live_place s p) (shallow s p) h
