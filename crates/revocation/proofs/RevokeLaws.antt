-- What REVOKE answers and leaves, by its self word, the reading of its descriptor and the mask.
use Rattle.std.specs.Prelude.{Ok, Err}
use Prim.Native.Nat.{ℕ, ◌+◌, ◌^◌, ◌≤◌, ◌<◌}
use mathlib.Core.Path.{◌≡◌, sym, ◌∙◌}
use mathlib.Core.Bool.{Bool, true, false}
use mathlib.Core.List.{List, [], ◌∷◌}
use native.Mathlib.Omega.{arith}
use native.Mathlib.Nat.{add-zero, le_refl}
use lib.Dec.{eqb}
use lib.Pow.{pow_pos}
use borrow.Author.Tests.{le-leb, lt-leb}
use Rattle.words.specs.Sizes.{domains, spaces, place_of, space_of}
use Rattle.words.specs.Sizes.{places as placeCount}
use Rattle.words.specs.Permissions.{delegated}
use Rattle.words.proofs.PlaceLaws.{start_rises}
use Rattle.descriptor.specs.declared.Range.{Range}
use Rattle.descriptor.specs.declared.Reading.TheVariants.{Null, Malformed, Good}
use Rattle.reply.specs.declared.Refusal.TheVariants.{BadPar}
use Rattle.descriptor.specs.Descriptors.{Proper, reading}
use Rattle.descriptor.proofs.DescriptorLaws.{proper_space}
use Rattle.interface.specs.Places.{State, PD, greatest, domain_word, cap_at, object_at, cap_table, tables, view}
use Rattle.interface.specs.Effects.{cut, cut_caps, act, run}
use Rattle.interface.specs.Verdicts.{Call, refuse, grant, caller_domain}
use Rattle.interface.specs.Rules.{Runs}
use Rattle.interface.specs.Revoke.{mask_is_outside, revoke}
use Rattle.descent.specs.Walks.{InSpace}
use Rattle.capabilities.specs.Callers.{Called}
use Rattle.capabilities.proofs.CallerLaws.{places_kept, objects_kept, refused_runs, granted_runs}

-- what a mask keeps of the greatest permissions of its range's space tells whether it lies outside them
pub keeps_none : (range : Range) {space most mask kept : ℕ} → space ≡ range.space → most ≡ greatest space PD → mask ≡ range.mask → kept ≡ delegated most mask →
    eqb kept 0 ≡ mask_is_outside (Good range)
keeps_none range is_space is_most is_mask is_kept = rw (is_kept, is_most, is_mask, is_space)

-- a range's mask, and its places in a domain: the first of them and how many they are
pub record Aimed (domain : ℕ) (range : Range) (mask first size : ℕ) : Type 0 where
  pub is_mask : mask ≡ range.mask
  pub is_first : first ≡ place_of domain range.space range.base
  pub is_size : size ≡ 2 ^ range.order

pub aims : (domain : ℕ) {space selector first order size mask : ℕ} {range : Range} → mask ≡ range.mask → space ≡ range.space →
    selector ≡ range.base + 0 → first ≡ place_of domain space selector → order ≡ range.order → size ≡ 2 ^ order → Aimed domain range mask first size
aims domain {range} is_mask is_space is_selector is_first is_order is_size =
    record {
      is_mask = is_mask;
      is_first = rw (is_first, is_space, is_selector, add-zero range.base);
      is_size = rw (is_size, is_order);
    }

-- they are places
pub range_ends : {domain mask first size : ℕ} {range : Range} → Aimed domain range mask first size → Proper range → domain < domains → first + size ≤ placeCount
range_ends {range} aimed proper small =
    omega (arith, aimed.is_first, aimed.is_size, proper.ends_inside, start_rises range.space spaces proper.space_small)

-- and of one space
pub range_in_space : {domain mask first size : ℕ} {range : Range} → Aimed domain range mask first size → Proper range → domain < domains → InSpace first size
range_in_space {domain} {mask} {first} {size} {range} aimed proper small =
    let some = pow_pos range.order in
    let there : (p : ℕ) → first ≤ p → p < first + size → space_of p ≡ range.space =
    λ p from before. proper_space domain range proper p (omega (arith, aimed.is_first)) (omega (arith, aimed.is_first, aimed.is_size)) in
    record {
      first_place = omega (arith, range_ends aimed proper small, aimed.is_size);
      ends = range_ends aimed proper small;
      one_space = λ p from before. there p from before ∙ sym (there first (le_refl first) (omega (arith, aimed.is_size)));
    }

-- the verdict on a call whose self word is 0 or 1, by the reading of its descriptor
module _ (s : State) (c : Call) (small : c.second ≤ 1) where
  malformed_verdict : reading c.first ≡ Malformed → revoke s c ≡ refuse BadPar
  unfolding revoke
  malformed_verdict e = rw (le-leb c.second 1 small, e)

  null_verdict : reading c.first ≡ Null → revoke s c ≡ grant 0 []
  unfolding revoke
  null_verdict e = rw (le-leb c.second 1 small, e)

  outside_verdict : (range : Range) → reading c.first ≡ Good range → mask_is_outside (Good range) ≡ true → revoke s c ≡ refuse BadPar
  unfolding revoke
  outside_verdict range e h = rw (le-leb c.second 1 small, e, h)

  good_verdict : (range : Range) → reading c.first ≡ Good range → mask_is_outside (Good range) ≡ false →
      revoke s c ≡ grant 0 (cut range.mask (place_of (caller_domain s c) range.space range.base) (2 ^ range.order) (eqb c.second 1) ∷ [])
  unfolding revoke
  good_verdict range e h = rw (le-leb c.second 1 small, e, h)

module _ {places objects : List ℕ} {caller self : ℕ} (called : Called places objects caller) where
  pub self_refused : 1 < self → (c : Call) → c.second ≡ self → Runs revoke c (tables places objects) (tables places objects) (Err BadPar)
  unfolding revoke
  self_refused large c is_second = refused_runs called (rw (is_second, lt-leb self 1 large))

  module _ {descriptor : ℕ} (small : self ≤ 1) where
    pub malformed_refused : reading descriptor ≡ Malformed → (c : Call) → c.first ≡ descriptor → c.second ≡ self →
        Runs revoke c (tables places objects) (tables places objects) (Err BadPar)
    malformed_refused e c is_first is_second =
        refused_runs called (malformed_verdict (view places objects) c (rw is_second small) (rw is_first e))

    pub null_revokes : reading descriptor ≡ Null → (c : Call) → c.first ≡ descriptor → c.second ≡ self →
        Runs revoke c (tables places objects) (tables places objects) (Ok 0)
    unfolding run
    null_revokes e c is_first is_second =
        granted_runs called (null_verdict (view places objects) c (rw is_second small) (rw is_first e)) (sym (places_kept called)) (sym (objects_kept called))

    pub mask_refused : {range : Range} {outside : Bool} → reading descriptor ≡ Good range → outside ≡ mask_is_outside (Good range) → outside ≡ true →
        (c : Call) → c.first ≡ descriptor → c.second ≡ self → Runs revoke c (tables places objects) (tables places objects) (Err BadPar)
    mask_refused {range} e is_outside h c is_first is_second =
        refused_runs called (outside_verdict (view places objects) c (rw is_second small) range (rw is_first e) (sym is_outside ∙ h))

    pub range_revokes : {domain mask first size : ℕ} {range : Range} {outside : Bool} {after : List ℕ} → reading descriptor ≡ Good range →
        outside ≡ mask_is_outside (Good range) → outside ≡ false → domain ≡ object_at objects caller domain_word → Aimed domain range mask first size →
        after ≡ cap_table (cut_caps mask first size (eqb self 1) (cap_at places)) →
        (c : Call) → c.caller ≡ caller → c.first ≡ descriptor → c.second ≡ self → Runs revoke c (tables places objects) (tables after objects) (Ok 0)
    unfolding run act
    range_revokes {range} e is_outside h is_domain aimed is_after c is_caller is_first is_second =
        granted_runs called (good_verdict (view places objects) c (rw is_second small) range (rw is_first e) (sym is_outside ∙ h))
        (rw (is_second, is_caller, ← is_domain, ← aimed.is_first, ← aimed.is_mask, ← aimed.is_size) is_after) (sym (objects_kept called))
