-- Laws of parent links: those of a sound state can be followed, and the nearest ancestor in a domain is the first among the domain's places.
use Prim.Native.Nat.{ℕ, ◌+◌, ◌*◌, ◌<◌}
use mathlib.Core.Path.{◌≡◌, refl, ap}
use mathlib.Core.Bool.{true, false, ◌||◌}
use mathlib.Core.List.{List, [], ◌∷◌}
use native.Mathlib.Omega.{arith}
use lib.Dec.{eqb, leb, ltb}
use borrow.Author.Tests.{leb-true, ltb-true, le-leb, lt-ltb, eqb-true, eq-eqb}
use Rattle.words.specs.Sizes.{object, stride, places, domain_of, space_of}
use Rattle.interface.specs.Places.{Cap, State, live}
use Rattle.interface.specs.Boot.{hypervisor}
use Rattle.interface.specs.Effects.{ancestors, among}
use Rattle.interface.specs.Message.{first_in, nearest}
use Rattle.interface.proofs.Basics.BoolLaws.{cases, and_left, and_right, both, same_test}
use Rattle.interface.proofs.Sound.Soundness.{Sound}
use Rattle.interface.proofs.Sound.PlaceFacts.{null_cap, Lineage, no_parent, child, live_facts, parent_child}
use Rattle.descent.specs.Walks.{Linked, first_among}

module _ (s : State) (k : Sound s) (p : ℕ) (l : p < places) where
  -- a place without a parent has depth 0
  depth_none : Lineage s p → (s.caps p).parent ≡ 0 → (s.caps p).depth ≡ 0
  depth_none (no_parent e t) none =
      eqb-true (s.caps p).depth 0 (and_left (eqb (s.caps p).depth 0) (eqb (space_of p) object || eqb (domain_of p) hypervisor) t)
  depth_none (child q c) none = absurd (omega (arith, c.linked))

  -- and so has a null place
  root : (s.caps p).parent ≡ 0 → (s.caps p).depth ≡ 0
  root none =
      cases (live (s.caps p)) (λ (t : live (s.caps p) ≡ true). depth_none (live_facts s p (k.lives p l) t).lineage none)
      (λ (f : live (s.caps p) ≡ false). ap (λ (cap : Cap). cap.depth) (null_cap s p (k.nulls p l) f))

-- the links of a sound state can be followed
pub sound_linked : (s : State) → Sound s → Linked s.caps
sound_linked s k =
    record {
      rooted = λ p l e. root s k p l e;
      parent_place = λ p q l e. (parent_child s k p q l e).is_place;
      parent_space = λ p q l e. (parent_child s k p q l e).same_space;
      parent_depth = λ p q l e. omega (arith, (parent_child s k p q l e).deeper);
    }

-- the places of a domain are those from its first on, as many as a domain has
domain_among : (domain place : ℕ) → eqb (domain_of place) domain ≡ among (domain * stride) stride place
domain_among domain place =
    let first = domain * stride in
    same_test (eqb (domain_of place) domain) (among first stride place)
    (λ (t : eqb (domain_of place) domain ≡ true).
    let e : domain_of place ≡ domain = eqb-true (domain_of place) domain t in
    both (leb first place) (ltb place (first + stride)) (le-leb first place (omega arith)) (lt-ltb place (first + stride) (omega arith)))
    (λ (t : among first stride place ≡ true).
    eq-eqb (domain_of place) domain
    (omega (
      arith,
      leb-true first place (and_left (leb first place) (ltb place (first + stride)) t),
      ltb-true place (first + stride) (and_right (leb first place) (ltb place (first + stride)) t),
    )))

first_in_among : (domain : ℕ) (list : List ℕ) → first_in domain list ≡ first_among (domain * stride) stride list
unfolding first_in first_among
first_in_among domain [] = refl
first_in_among domain (place ∷ list) = rw (domain_among domain place, first_in_among domain list)

-- the nearest ancestor in a domain is the first that a walk finds among the domain's places
pub nearest_first_among : (caps : ℕ → Cap) (domain place : ℕ) → nearest caps domain place ≡ first_among (domain * stride) stride (ancestors caps place)
unfolding nearest
nearest_first_among caps domain place = first_in_among domain (ancestors caps place)
