-- Domain 0 at boot: its stretches, and the null places after its objects.
use Rattle.std.proofs.Common.{◌≡◌, ℕ, ◌+◌, ◌-◌, ◌<◌, ◌≤◌, Bool, true, false, ltb, List, sym, refl, ◌∙◌, arith, ltb-false, ltb-true, le-ltb, lt-ltb}
use Rattle.words.specs.Sizes.{memory, io, object, spaces, selectors, start, stride, place_of}
use Rattle.words.proofs.PlaceLaws.{domain_back, space_back, selector_back}
use Rattle.interface.specs.Basics.{all_below}
use Rattle.interface.specs.Places.{Cap, State, nothing, parentless, free, SM, cap_at, greatest_of, greatest, places_in}
use Rattle.interface.specs.Boot.{hypervisor, cpus, root_pd, boot_record, hypervisor_cap, boot_cap}
use Rattle.interface.specs.Damage.{same_cap, fixed_place}
use Rattle.interface.proofs.Basics.BoolLaws.{cases, same_test}
use Rattle.interface.proofs.Basics.BelowLaws.{all_below_at, all_below_lem}
use Rattle.interface.proofs.Sound.PlaceFacts.{same_cap_lem}
use Rattle.place_rules.specs.PlaceKeeping.{blank}
use Rattle.place_rules.proofs.PlaceTests.{fixed_same}
use Rattle.place_rules.proofs.BlankLaws.{blank_null, null_blank}
use Rattle.hypervisor_rules.specs.HypervisorKeeping.{Stretch}

-- domain 0 at boot
boot_there : (space selector : ℕ) → space < spaces → selector < selectors space → boot_cap (place_of hypervisor space selector) ≡ hypervisor_cap space selector
unfolding boot_cap
boot_there space selector h l = rw (selector_back hypervisor space selector h l, domain_back hypervisor space selector h l, space_back hypervisor space selector h l)

module _ (place : ℕ) (cap : Cap) where
  boot_memory : place < start io → cap ≡ parentless place (greatest memory free) → cap ≡ boot_cap place
  unfolding hypervisor_cap
  boot_memory l e =
      let same : place_of hypervisor memory place ≡ place = omega arith in
      e ∙ sym (rw same at (boot_there memory place (omega arith) (omega arith)))

  boot_io : start io ≤ place → place < start object → cap ≡ parentless (place - start io) (greatest io free) → cap ≡ boot_cap place
  unfolding hypervisor_cap
  boot_io g l e =
      let same : place_of hypervisor io (place - start io) ≡ place = omega arith in
      e ∙ sym (rw same at (boot_there io (place - start io) (omega arith) (omega arith)))

  module _ (g : start object ≤ place) (l : place < stride) where
    boot_selector : boot_cap place ≡ hypervisor_cap object (place - start object)
    boot_selector =
        let same : place_of hypervisor object (place - start object) ≡ place = omega arith in
        rw same at (boot_there object (place - start object) (omega arith) (omega arith))

    boot_interrupt : cpus ≤ place - start object → place - start object < root_pd → cap ≡ parentless (place - start object) (greatest_of SM) → cap ≡ boot_cap place
    unfolding hypervisor_cap boot_record
    boot_interrupt d b e =
        let late : ltb (place - start object) cpus ≡ false = le-ltb (place - start object) cpus d in
        let inside : ltb (place - start object) root_pd ≡ true = lt-ltb (place - start object) root_pd b in
        e ∙ (rw (boot_selector, inside, late))

    boot_rest : root_pd ≤ place - start object → cap ≡ nothing → cap ≡ boot_cap place
    unfolding hypervisor_cap
    boot_rest d e = e ∙ (rw (boot_selector, le-ltb (place - start object) root_pd d))

-- its stretches
pub memory_stretch : Stretch 0 (start io - 1)
memory_stretch =
    record {
      begin = 0;
      permissions = greatest memory free;
      after_begin = omega arith;
      few = omega arith;
      long = omega arith;
      in_domain = omega arith;
      as_boot = λ p g l. let same : p - 0 ≡ p = omega arith in rw same (sym (boot_memory p (parentless p (greatest memory free)) (omega arith) refl));
    }

pub io_stretch : Stretch (start io) (start object - 1)
io_stretch =
    record {
      begin = start io;
      permissions = greatest io free;
      after_begin = omega arith;
      few = omega arith;
      long = omega arith;
      in_domain = omega arith;
      as_boot = λ p g l. sym (boot_io p (parentless (p - start io) (greatest io free)) g (omega arith) refl);
    }

pub interrupt_stretch : Stretch (start object + cpus) (start object + root_pd - 1)
interrupt_stretch =
    record {
      begin = start object;
      permissions = greatest_of SM;
      after_begin = omega arith;
      few = omega arith;
      long = omega arith;
      in_domain = omega arith;
      as_boot = λ p g l. sym (boot_interrupt p (parentless (p - start object) (greatest_of SM)) (omega arith) (omega arith) (omega arith) (omega arith) refl);
    }

-- a place past its objects is as at boot exactly where it is null
fixed_null : (s : State) (p : ℕ) (same : Bool) (a b : Cap) → start object + root_pd ≤ p → p < stride → a ≡ s.caps p → b ≡ nothing → same ≡ same_cap a b → same ≡ fixed_place s p
fixed_null s p same a b g l e f h = fixed_same s p same a b l e (boot_rest p b (omega arith) l (omega arith) f) h

-- domain 0 past its objects is null at boot, so it is as at boot exactly where its words are 0
pub rest_decides : (table : List ℕ) → all_below (start object + root_pd) (fixed_place (places_in table)) ≡ true →
    blank table (start object + root_pd) (stride - (start object + root_pd)) ≡ all_below stride (fixed_place (places_in table))
rest_decides table before =
    let rest = start object + root_pd in
    let count = stride - rest in
    same_test (blank table rest count) (all_below stride (fixed_place (places_in table)))
    (λ (t : blank table rest count ≡ true).
    all_below_lem stride (fixed_place (places_in table))
    (λ p l.
    cases (ltb p rest) (λ (b : ltb p rest ≡ true). all_below_at rest (fixed_place (places_in table)) before p (ltb-true p rest b))
    (λ (f : ltb p rest ≡ false).
    let from : rest ≤ p = ltb-false p rest f in
    let null : cap_at table p ≡ nothing = blank_null table rest count p from (omega arith) t in
    sym (fixed_null (places_in table) p true (cap_at table p) nothing from l refl refl (rw null)))))
    (λ (t : all_below stride (fixed_place (places_in table)) ≡ true).
    null_blank table rest count
    (λ p from inside.
    let l : p < stride = omega arith in
    same_cap_lem (cap_at table p) nothing
    (fixed_null (places_in table) p (same_cap (cap_at table p) nothing) (cap_at table p) nothing from l refl refl refl ∙
    all_below_at stride (fixed_place (places_in table)) t p l)))
