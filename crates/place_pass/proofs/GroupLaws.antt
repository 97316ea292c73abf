-- The places of a group have its space and its domain in common, and so whether that has a PD.
use Prim.Native.Nat.{ℕ, ◌+◌, ◌-◌, ◌*◌, ◌%◌, ◌≤◌, ◌<◌, ◌∣◌}
use mathlib.Core.Path.{◌≡◌, refl, sym, ◌∙◌}
use mathlib.Core.Bool.{true, false, ◌||◌}
use mathlib.Core.List.{List}
use native.Mathlib.Nat.{dvd_of_mod-eq-zero}
use native.Mathlib.Omega.{arith}
use lib.Dec.{eqb, leb, ltb}
use borrow.Author.Tests.{ltb-true, leb-true, lt-ltb, le-ltb, le-leb}
use Rattle.words.specs.Sizes.{memory, object, selectors, stride, domain_of, space_of, places}
use Rattle.words.proofs.PlaceLaws.{run_domain, run_space}
use Rattle.interface.specs.Places.{Cap, Tables, object_at, shown}
use Rattle.interface.specs.Boot.{hypervisor}
use Rattle.interface.specs.Damage.{between1, has_pd}
use Rattle.interface.proofs.Basics.BoolLaws.{and_right, both, same_test}
use Rattle.record_rules.specs.RecordKeeping.{Numbered}
use Rattle.record_rules.proofs.PdLaws.{home_counted}
use Rattle.place_rules.specs.PlaceKeeping.{Around}
use Rattle.place_rules.proofs.PlaceTests.{past_hypervisor}
use Rattle.place_pass.specs.PassKeeping.{group, Passed}

-- a domain past 0 has a PD exactly where the place is below the stride of the last PD's domain
home_below : {table : List ℕ} {pds : ℕ} → Numbered table pds → (caps : ℕ → Cap) (p : ℕ) → stride ≤ p →
    ltb p (stride * (pds + 1)) ≡ (eqb (domain_of p) hypervisor || has_pd (record { caps = caps; objects = object_at table }) (domain_of p))
home_below {pds = pds} numbered caps p l =
    rw (past_hypervisor p l)
    (same_test (ltb p (stride * (pds + 1))) (between1 pds (domain_of p))
    (λ (t : ltb p (stride * (pds + 1)) ≡ true).
    let b : p < stride * (pds + 1) = ltb-true p (stride * (pds + 1)) t in
    both (leb 1 (domain_of p)) (leb (domain_of p) pds) (le-leb 1 (domain_of p) (omega arith)) (le-leb (domain_of p) pds (omega arith)))
    (λ (t : between1 pds (domain_of p) ≡ true).
    let b : domain_of p ≤ pds = leb-true (domain_of p) pds (and_right (leb 1 (domain_of p)) (leb (domain_of p) pds) t) in
    lt-ltb p (stride * (pds + 1)) (omega arith)) ∙
    home_counted numbered caps (domain_of p) (domain_of p) refl)

pub domain_without_pd : {table : List ℕ} {pds : ℕ} → Numbered table pds → (caps : ℕ → Cap) (p : ℕ) → stride ≤ p → stride * (pds + 1) ≤ p →
    (eqb (domain_of p) hypervisor || has_pd (record { caps = caps; objects = object_at table }) (domain_of p)) ≡ false
domain_without_pd {pds = pds} numbered caps p past late = sym (home_below numbered caps p past) ∙ le-ltb p (stride * (pds + 1)) late

-- the places of a group have its space and its domain in common
module _ (first p : ℕ) (aligned : first % group ≡ 0) (from : first ≤ p) (before : p < first + group) where
  abbrev offset : ℕ
  offset = p - first

  there : first + offset ≡ p
  there = omega arith

  of_group : (n : ℕ) → n % group ≡ 0 → group ∣ n
  of_group n e = dvd_of_mod-eq-zero group e

  group_space : space_of p ≡ space_of first
  group_space = rw there at (run_space group first offset (of_group (selectors memory) refl) (of_group (selectors object) refl) (of_group first aligned) (omega arith))

  group_domain : domain_of p ≡ domain_of first
  group_domain = rw there at (run_domain group first offset (of_group (selectors memory) refl) (of_group (selectors object) refl) (of_group first aligned) (omega arith))

  -- so it has a PD exactly where the group is below the stride of the last PD's domain
  group_home : {table : List ℕ} {pds : ℕ} → Numbered table pds → (caps : ℕ → Cap) → stride ≤ first →
      ltb first (stride * (pds + 1)) ≡ (eqb (domain_of p) hypervisor || has_pd (record { caps = caps; objects = object_at table }) (domain_of p))
  group_home numbered caps past = rw group_domain (home_below numbered caps first past)

  pub around_home : (tables : Tables) → Passed tables first → first < places → Around tables p (space_of first) true
  around_home tables passed l =
      record {
        places_long = passed.places_long;
        objects_long = passed.kept.numbered.long;
        is_place = omega arith;
        in_space = sym group_space;
        at_home =
            sym (lt-ltb first (stride * (passed.pds + 1)) passed.has_pd_lem) ∙ group_home passed.kept.numbered (shown tables).caps passed.past_hypervisor;
      }
