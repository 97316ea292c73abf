-- Domain 0: places that are as at boot keep every rule once the records keep theirs.
use Prim.Native.Nat.{ℕ, ◌≤◌, ◌<◌}
use mathlib.Core.Path.{◌≡◌, refl, sym, ◌∙◌}
use mathlib.Core.Bool.{true, false, ◌&&◌, ◌||◌}
use native.Mathlib.Omega.{arith}
use lib.Dec.{eqb, leb, ltb}
use borrow.Author.Tests.{ltb-true, ltb-false, lt-ltb, le-leb, eqb-true, eqb-false, eq-eqb}
use Rattle.words.specs.Sizes.{memory, io, object, stride, domain_of, space_of, records, record_words}
use Rattle.words.proofs.PlaceLaws.{space_small}
use Rattle.std.specs.Prelude.{if◌then◌else◌}
use Rattle.interface.specs.Basics.{all_below}
use Rattle.interface.specs.Places.{State, Tables, live, nothing, SM, kind_word, kind_of, shown, places_in}
use Rattle.interface.specs.Boot.{hypervisor, cpus, root_pd, root_sc, boot_record, hypervisor_cap, boot_cap, boot}
use Rattle.interface.specs.Damage.{record_as_boot, fixed_record, fixed_place, interrupt_rule, has_pd, null_place, parentless_place, live_place, shallow}
use Rattle.interface.proofs.Basics.BoolLaws.{cases, both, or_left, asked}
use Rattle.interface.proofs.Basics.BelowLaws.{all_below_at, all_below_lem}
use Rattle.interface.proofs.Sound.Soundness.{OfRecords, Sound, sound_facts}
use Rattle.interface.proofs.Sound.PlaceFacts.{boot_cap_lem, fixed_parentless, Lineage, LivePlace, live_facts, live_test}
use Rattle.interface.proofs.History.BootLaws.{boot_sound}
use Rattle.record_rules.specs.RecordKeeping.{records_in, record_keeps, Kept}
use Rattle.place_rules.specs.PlaceKeeping.{place_keeps}
use Rattle.record_rules.proofs.RecordParts.{caps_apart, record_parts}

at_boot : Sound boot
at_boot = sound_facts boot boot_sound

-- the objects that domain 0 holds at boot are idle SCs and interrupt semaphores
boot_objects : all_below stride (λ p. if live (boot_cap p) && eqb (space_of p) object then ltb (boot_cap p).resource root_pd else true) ≡ true
unfolding space_of all_below boot_record hypervisor_cap boot_cap
boot_objects = refl

-- a place of boot that has no parent may be one
boot_lineage : (p : ℕ) → Lineage boot p → (boot_cap p).parent ≡ 0 → parentless_place boot p ≡ true
boot_lineage p (Lineage.no_parent e t) z = t
boot_lineage p (Lineage.child q c) z = absurd (omega (arith, c.linked))

module _ (s : State) (fixed : OfRecords (fixed_record s)) (interrupts : OfRecords (interrupt_rule s)) where
  -- the records of idle SCs and interrupts have their kinds of boot
  interrupt_kind : (t : State) → OfRecords (interrupt_rule t) → (r : ℕ) → cpus ≤ r → r < root_pd → kind_of t r ≡ SM
  unfolding interrupt_rule
  interrupt_kind t k r g l =
      eqb-true (kind_of t r) SM
      (asked (leb cpus r && ltb r root_pd) (eqb (kind_of t r) SM) (k r (omega arith)) (both (leb cpus r) (ltb r root_pd) (le-leb cpus r g) (lt-ltb r root_pd l)))

  kind_of_boot : (r : ℕ) → r < root_pd → kind_of s r ≡ kind_of boot r
  unfolding fixed_record
  kind_of_boot r l =
      cases (ltb r cpus)
      (λ (t : ltb r cpus ≡ true).
      let same =
      all_below_at record_words (λ k. eqb (s.objects r k) (boot.objects r k))
      (asked (ltb r cpus || (leb root_pd r && leb r root_sc)) (record_as_boot s r) (fixed r (omega arith)) (or_left (ltb r cpus) (leb root_pd r && leb r root_sc) t))
      in
      eqb-true (kind_of s r) (kind_of boot r) (same kind_word (omega arith)))
      (λ (f : ltb r cpus ≡ false).
      let g : cpus ≤ r = ltb-false r cpus f in
      interrupt_kind s interrupts r g l ∙ sym (interrupt_kind boot at_boot.interrupts r g l))

  module _ (p : ℕ) (l : p < stride) (h : fixed_place s p ≡ true) where
    there : domain_of p ≡ hypervisor
    there = omega arith

    same : s.caps p ≡ boot_cap p
    same = boot_cap_lem s p h there

    kind_held : live (boot_cap p) ≡ true → space_of p ≡ object → kind_of s (boot_cap p).resource ≡ kind_of boot (boot_cap p).resource
    kind_held alive o =
        let early =
        all_below_at stride (λ q. if live (boot_cap q) && eqb (space_of q) object then ltb (boot_cap q).resource root_pd else true) boot_objects p l
        in
        kind_of_boot (boot_cap p).resource
        (ltb-true (boot_cap p).resource root_pd
        (asked (live (boot_cap p) && eqb (space_of p) object) (ltb (boot_cap p).resource root_pd) early
        (both (live (boot_cap p)) (eqb (space_of p) object) alive (eq-eqb (space_of p) object o))))

    live_there : live (boot_cap p) ≡ true → LivePlace s p
    live_there alive =
        let b = live_facts boot p (at_boot.lives p (omega arith)) alive in
        record {
          home = or_left (eqb (domain_of p) hypervisor) (has_pd s (domain_of p)) (eq-eqb (domain_of p) hypervisor there);
          names =
              cases (eqb (space_of p) object)
              (λ (o : eqb (space_of p) object ≡ true). rw (same, o, kind_held alive (eqb-true (space_of p) object o)) (rw o at b.names))
              (λ (n : eqb (space_of p) object ≡ false). rw (same, n) (rw n at b.names));
          bounded =
              cases (eqb (space_of p) memory) (λ (m : eqb (space_of p) memory ≡ true). rw (same, m) (rw m at b.bounded))
              (λ (m : eqb (space_of p) memory ≡ false).
              cases (eqb (space_of p) io) (λ (i : eqb (space_of p) io ≡ true). rw (same, m, i) (rw (m, i) at b.bounded))
              (λ (i : eqb (space_of p) io ≡ false).
              let o : space_of p ≡ object = omega (arith, space_small p, eqb-false (space_of p) memory m, eqb-false (space_of p) io i) in
              rw (same, kind_held alive o) b.bounded));
          lineage =
              Lineage.no_parent (fixed_parentless s p h there) (rw same (boot_lineage p b.lineage (rw same at (fixed_parentless s p h there))));
        }

    pub hypervisor_kept : place_keeps s p ≡ true
    unfolding place_keeps null_place shallow
    hypervisor_kept =
        let lives : live_place s p ≡ true = live_test s p (λ (a : live (s.caps p) ≡ true). live_there (rw same at a)) in
        rw (h, lives, same, at_boot.nulls p (omega arith), at_boot.shallows p (omega arith))

-- and so does the whole of domain 0 in tables whose records keep their rules
pub hypervisor_below : (tables : Tables) {pds : ℕ} → Kept tables.objects pds → all_below stride (fixed_place (places_in tables.places)) ≡ true →
    all_below stride (place_keeps (shown tables)) ≡ true
unfolding fixed_place
hypervisor_below tables kept h =
    let s = shown tables in
    let keeps : OfRecords (record_keeps s) =
    λ r l. rw (caps_apart s.caps (λ p. nothing) s.objects r) (all_below_at records (record_keeps (records_in tables.objects)) kept.others r l)
    in
    all_below_lem stride (place_keeps s)
    (λ p l.
    hypervisor_kept s (λ r b. (record_parts s r (keeps r b)).0.0) (λ r b. (record_parts s r (keeps r b)).0.1) p l
    (all_below_at stride (fixed_place (places_in tables.places)) h p l))
