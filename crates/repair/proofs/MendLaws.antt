-- Emptying the places that do not stay is repair, and when that leaves sound tables.
use Rattle.std.specs.Prelude.{Option, None, Ok, Err}
use Prim.Native.Nat.{ℕ, ◌+◌, ◌≤◌, ◌<◌}
use mathlib.Core.Path.{◌≡◌, refl, sym, ap, ◌∙◌}
use mathlib.Core.Logic.{◌⊎◌, inl, inr, ⊎_elim}
use mathlib.Core.Bool.{Bool, true, false, not, ◌&&◌}
use mathlib.Core.List.{List}
use native.Mathlib.Omega.{arith}
use lib.ListN.{length}
use borrow.Author.Tests.{eq-eqb, ne_eqb, not-true, not-false, ltb-false}
use Rattle.words.specs.Sizes.{stride, domain_of, places, records}
use Rattle.reply.specs.declared.Refusal.TheVariants.{Damaged}
use Rattle.interface.specs.Basics.{all_below, count_below}
use Rattle.interface.specs.Places.{Cap, Tables, live, nothing, place_table_words, object_table_words, sized, cap_at, cap_table, shown, tables, view}
use Rattle.interface.specs.Boot.{hypervisor, boot}
use Rattle.interface.specs.Damage.{same_cap, pds_below, pd_rule, sound}
use Rattle.interface.proofs.Basics.BoolLaws.{cases, same_test}
use Rattle.interface.proofs.Basics.BelowLaws.{all_below_at, all_below_lem}
use Rattle.interface.proofs.Basics.LoopLaws.{answered_no, count_more, count_same}
use Rattle.interface.proofs.Tables.TableLaws.{places_long, objects_long}
use Rattle.interface.proofs.Sound.Soundness.{OfRecords}
use Rattle.interface.proofs.Sound.PlaceFacts.{same_cap_lem}
use Rattle.record_rules.specs.RecordKeeping.{records_in, counted_pds, Kept}
use Rattle.record_rules.specs.RecordKeeping.{record_keeps as keepsOthers}
use Rattle.record_rules.proofs.RecordParts.{caps_apart, record_parts}
use Rattle.soundness.proofs.KeepingLaws.{pds_broken, records_broken}
use Rattle.places.proofs.CapTableLaws.{cap_table_same}
use Rattle.marks.specs.PlaceBits.{bit_at, SetIf}
use Rattle.descent.specs.Walks.{Marked}
use Rattle.tree.specs.Changing.{changed_where}
use Rattle.repair_rules.specs.Repair.{stays, repaired_cap, repaired, lost, repairing}
use Rattle.repair_rules.specs.RepairFacts.{RecordsKeep}
use Rattle.repair_rules.proofs.StateLaws.{cap_same, by_number}
use Rattle.repair_rules.proofs.TablesLaws.{sized_long, long_sized, empties_exactly, sound_after}
use Rattle.repair.proofs.MarkingLaws.{MarkedBelow, none_marked, marked_more, marked_all}
use Rattle.repair.specs.Mending.{link_keeps, Unmarked, ToldWhole, ToldLost, LostMarked, Mended, place_mends}

-- whether a place goes
module _ (table : List ℕ) (p : ℕ) {cap : Cap} (is_cap : cap ≡ cap_at table p) (alive : Bool) (is_alive : alive ≡ live cap) where
  lives : alive ≡ live (cap_at table p)
  lives = is_alive ∙ ap live is_cap

  pub is_live_there : not alive ≡ false → live (cap_at table p) ≡ true
  is_live_there t = sym lives ∙ not-false alive t

  pub goes_null : (links : List ℕ) → not alive ≡ true → ToldLost table links p true
  unfolding stays
  goes_null links d = record { lost_told = λ objects told. rw (← lives, not-true alive d) }

  module _ (links : List ℕ) (t : not alive ≡ false) {number : ℕ} (is_number : number ≡ p) where
    pub stays_in_0 : number < stride → ToldLost table links p false
    unfolding stays
    stays_in_0 l =
        let there : domain_of p ≡ hypervisor = omega arith in
        record { lost_told = λ objects told. rw (← lives, not-false alive t, eq-eqb (domain_of p) hypervisor there) }

    pub goes_broken : stride ≤ number → (answer : Bool) → ToldWhole table links p answer → ToldLost table links p (not answer)
    unfolding stays
    goes_broken l answer told_whole =
        let elsewhere : domain_of p ≡ hypervisor → ⊥ = λ e. omega arith in
        record { lost_told = λ objects told. rw (told_whole.whole_told objects told, ← lives, not-false alive t, ne_eqb (domain_of p) hypervisor elsewhere) }

-- the places that go, marked in turn whatever the records
module _ (table links : List ℕ) where
  abbrev pub LostBelow : ℕ → List ℕ → Type 0
  LostBelow at marks = (objects : List ℕ) → Marked (link_keeps (view table objects)) links → MarkedBelow (λ p. not (stays (view table objects) p)) at marks

  pub none_lost : {marks : List ℕ} → Unmarked marks → LostBelow 0 marks
  none_lost blank objects told = none_marked (λ p. not (stays (view table objects) p)) blank

  pub lost_more : (at : ℕ) {marks after : List ℕ} {place : ℕ} → LostBelow at marks → place ≡ at → (goes : Bool) → ToldLost table links place goes → SetIf goes marks place after →
      LostBelow (at + 1) after
  lost_more at {marks} {after} {place} so_far here goes is_lost set objects told =
      marked_more (λ p. not (stays (view table objects) p)) at goes (so_far objects told) here
      (is_lost.lost_told objects told ∙ ap (λ (p : ℕ). not (stays (view table objects) p)) here) set

-- the live places that go, counted in turn
module _ (table links : List ℕ) where
  abbrev goes_live : List ℕ → ℕ → Bool
  goes_live objects p = live (cap_at table p) && not (stays (view table objects) p)

  abbrev pub CountedBelow : ℕ → ℕ → Type 0
  CountedBelow at count = (objects : List ℕ) → Marked (link_keeps (view table objects)) links → count ≡ count_below at (goes_live objects)

  pub none_counted : CountedBelow 0 0
  unfolding count_below
  none_counted objects told = refl

  module _ (at count : ℕ) {place : ℕ} (so_far : CountedBelow at count) (here : place ≡ at) (goes : Bool) (is_lost : ToldLost table links place goes) {cap : Cap} (is_cap : cap ≡ cap_at table place)
      (alive : Bool) (is_alive : alive ≡ live cap) where
    both_are : (objects : List ℕ) → Marked (link_keeps (view table objects)) links → goes_live objects at ≡ (goes && alive)
    both_are objects told =
        let l : alive ≡ live (cap_at table at) = is_alive ∙ ap live is_cap ∙ ap (λ (q : ℕ). live (cap_at table q)) here in
        let g : goes ≡ not (stays (view table objects) at) = is_lost.lost_told objects told ∙ ap (λ (q : ℕ). not (stays (view table objects) q)) here in
        rw (← l, ← g) (cases alive (λ (t : alive ≡ true). rw t (cases goes (λ (h : goes ≡ true). rw h) (λ (h : goes ≡ false). rw h)))
        (λ (f : alive ≡ false). rw f (cases goes (λ (h : goes ≡ true). rw h) (λ (h : goes ≡ false). rw h))))

    pub counted_more : (goes && alive) ≡ true → CountedBelow (at + 1) (count + 1)
    counted_more t objects told =
        ap (λ (n : ℕ). n + 1) (so_far objects told) ∙ sym (count_more at (goes_live objects) (both_are objects told ∙ t))

    pub counted_same : (goes && alive) ≡ false → CountedBelow (at + 1) count
    counted_same f objects told = so_far objects told ∙ sym (count_same at (goes_live objects) (both_are objects told ∙ f))

  pub lost_all : (at count : ℕ) {marks : List ℕ} → at ≡ places → LostBelow table links at marks → CountedBelow at count → LostMarked table links marks count
  unfolding lost
  lost_all at count end marked so_far =
      record {
        marked = λ objects told. marked_all (λ p. not (stays (view table objects) p)) at (omega arith) (marked objects told);
        counted = λ objects told. so_far objects told ∙ ap (λ (n : ℕ). count_below n (goes_live objects)) end;
      }

-- emptying what goes is repair
pub mended : (before objects links marks after : List ℕ) (count : ℕ) → Marked (link_keeps (view before objects)) links → LostMarked before links marks count →
    after ≡ cap_table (changed_where (bit_at marks) (λ cap. nothing) (cap_at before)) → Mended before objects after count
unfolding changed_where repaired_cap
mended before objects links marks after count told lost_marked e =
    let s = view before objects in
    let m = lost_marked.marked objects told in
    record {
      leaves =
          e ∙
          cap_table_same (changed_where (bit_at marks) (λ cap. nothing) (cap_at before)) (repaired_cap s)
          (λ p l. rw (m.told p l) (cases (stays s p) (λ (t : stays s p ≡ true). rw t) (λ (f : stays s p ≡ false). rw f)));
      counts = lost_marked.counted objects told;
    }

-- a place of domain 0 that mends, as a test and as a fact
module _ (table : List ℕ) (p : ℕ) where
  pub mends_live : {cap fixed : Cap} (alive answer : Bool) → cap ≡ cap_at table p → fixed ≡ boot.caps p → alive ≡ live cap → alive ≡ true → answer ≡ same_cap cap fixed →
      answer ≡ place_mends table p
  unfolding place_mends
  mends_live {cap} {fixed} alive answer is_cap is_fixed_lem is_alive t e =
      let l : live (cap_at table p) ≡ true = ap live (sym is_cap) ∙ sym is_alive ∙ t in
      e ∙ (rw (l, is_cap, is_fixed_lem))

  pub mends_null : {cap fixed : Cap} (alive answer : Bool) → cap ≡ cap_at table p → fixed ≡ boot.caps p → alive ≡ live cap → alive ≡ false → answer ≡ live fixed →
      not answer ≡ place_mends table p
  unfolding place_mends
  mends_null {cap} {fixed} alive answer is_cap is_fixed_lem is_alive f e =
      let l : live (cap_at table p) ≡ false = ap live (sym is_cap) ∙ sym is_alive ∙ f in
      rw (l, e, is_fixed_lem)

  none_of : (cap : Cap) → live cap ≡ false → cap.permissions ≡ 0
  none_of cap d = omega (arith, ltb-false 0 cap.permissions d)

  mends_fact : place_mends table p ≡ true → (cap_at table p ≡ boot.caps p) ⊎ (((cap_at table p).permissions ≡ 0) × ((boot.caps p).permissions ≡ 0))
  unfolding place_mends
  mends_fact h =
      cases (live (cap_at table p)) (λ (t : live (cap_at table p) ≡ true). inl (same_cap_lem (cap_at table p) (boot.caps p) (rw t at h)))
      (λ (f : live (cap_at table p) ≡ false).
      let never : not (live (boot.caps p)) ≡ true = rw f at h in
      inr (none_of (cap_at table p) f, none_of (boot.caps p) (not-true (live (boot.caps p)) never)))

  fact_mends : (cap_at table p ≡ boot.caps p) ⊎ (((cap_at table p).permissions ≡ 0) × ((boot.caps p).permissions ≡ 0)) → place_mends table p ≡ true
  unfolding place_mends
  fact_mends =
      ⊎_elim
      (λ (e : cap_at table p ≡ boot.caps p).
      cases (live (cap_at table p)) (λ (t : live (cap_at table p) ≡ true). rw t (cap_same (cap_at table p) (boot.caps p) e))
      (λ (f : live (cap_at table p) ≡ false). let g : live (boot.caps p) ≡ false = rw e at f in rw (f, g)))
      (λ (z : ((cap_at table p).permissions ≡ 0) × ((boot.caps p).permissions ≡ 0)). rw (z.0, z.1))

-- when repair leaves sound tables: each way out of the test
module _ (t : Tables) where
  never_sound : (sound (repaired t) ≡ true → ⊥) → false ≡ sound (repaired t)
  never_sound n = cases (sound (repaired t)) (λ (h : sound (repaired t) ≡ true). absurd (n h)) (λ (f : sound (repaired t) ≡ false). sym f)

  same_objects : (repaired t).objects ≡ t.objects
  same_objects = empties_exactly.objects_stay t

  pub mends_sized : sound (repaired t) ≡ true → sized t ≡ true
  mends_sized h = long_sized t ((sound_after.exactly t).0 h).0

  pub mends_sizes_broken : (answer : Bool) → answer ≡ sized t → not answer ≡ true → false ≡ sound (repaired t)
  mends_sizes_broken answer e f = never_sound (λ h. answered_no answer (sized t) e f (mends_sized h))

  pub mends_pds_broken : (found : (Option ℕ)) → found ≡ counted_pds (records_in t.objects) → found ≡ None → false ≡ sound (repaired t)
  mends_pds_broken found is_found out =
      pds_broken (repaired t) found (is_found ∙ ap (λ (o : List ℕ). counted_pds (records_in o)) (sym same_objects)) out

  pub mends_records_broken : (answer : Bool) → answer ≡ all_below records (keepsOthers (records_in t.objects)) → not answer ≡ true → false ≡ sound (repaired t)
  mends_records_broken answer e f =
      records_broken (repaired t) answer (e ∙ ap (λ (o : List ℕ). all_below records (keepsOthers (records_in o))) (sym same_objects)) f

  kept_numbers : {pds : ℕ} → Kept t.objects pds → RecordsKeep (shown t)
  unfolding pds_below pd_rule
  kept_numbers kept =
      let s = shown t in
      let keeps : OfRecords (keepsOthers s) =
      λ r l. rw (caps_apart s.caps (λ p. nothing) s.objects r) (all_below_at records (keepsOthers (records_in t.objects)) kept.others r l) in
      by_number s (λ r l. (record_parts s r (keeps r l)).0.0) (λ r l. (record_parts s r (keeps r l)).0.1) (λ r l. (record_parts s r (keeps r l)).0.2)
      (λ r l. (record_parts s r (keeps r l)).0.3) (all_below_at records (pd_rule (records_in t.objects)) kept.numbered.in_turn_lem)
      (λ r l. (record_parts s r (keeps r l)).1) (λ r l. (record_parts s r (keeps r l)).2) (λ r l. (record_parts s r (keeps r l)).3)

  pub mends_decide : {pds : ℕ} (answer : Bool) → sized t ≡ true → Kept t.objects pds → answer ≡ all_below stride (place_mends t.places) → answer ≡ sound (repaired t)
  mends_decide answer right kept e =
      e ∙
      same_test (all_below stride (place_mends t.places)) (sound (repaired t))
      (λ h.
      (sound_after.exactly t).1 (
        sized_long t right,
        kept_numbers kept,
        record { as_boot = λ p l. mends_fact t.places p (all_below_at stride (place_mends t.places) h p l) },
      ))
      (λ h. all_below_lem stride (place_mends t.places) (λ p l. fact_mends t.places p (((sound_after.exactly t).0 h).2.as_boot p l)))

-- what the operation answers and leaves
module _ (places objects : List ℕ) (answer : Bool) (is_answer : answer ≡ sound (repaired (tables places objects))) where
  pub repair_refused : not answer ≡ true → record { reply = Err Damaged; tables = tables places objects } ≡ repairing (tables places objects)
  unfolding repairing
  repair_refused f = rw (sym is_answer ∙ not-true answer f)

  module _ (t : not answer ≡ false) where
    fits : sized (tables places objects) ≡ true
    fits = mends_sized (tables places objects) (sym is_answer ∙ not-false answer t)

    pub fits_places : length places ≡ place_table_words
    fits_places = places_long (tables places objects) fits

    pub fits_objects : length objects ≡ object_table_words
    fits_objects = objects_long (tables places objects) fits

    pub repair_done : (after : List ℕ) (count : ℕ) → Mended places objects after count → record { reply = Ok count; tables = tables after objects } ≡ repairing (tables places objects)
    unfolding repairing repaired
    repair_done after count m =
        rw (sym is_answer ∙ not-false answer t, fits, m.leaves, m.counts)
