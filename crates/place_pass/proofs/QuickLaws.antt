-- The shorter test: where domain 0 is as at boot and the records keep their rules, every place passes it exactly where every place keeps the rules.
use Rattle.std.specs.Prelude.{Option, Some, None}
use Prim.Native.Nat.{ℕ, zero, suc, ◌+◌, ◌-◌, ◌*◌, ◌/◌, ◌%◌, ◌≤◌, ◌<◌}
use mathlib.Core.Path.{◌≡◌, refl, sym, ap, ◌∙◌}
use mathlib.Core.Bool.{Bool, true, false, true≢false, not, ◌&&◌, ◌||◌, or-false, and_comm}
use mathlib.Core.List.{List}
use native.Mathlib.Omega.{arith}
use lib.Dec.{eqb, leb, ltb}
use borrow.Author.Tests.{ltb-true, ltb-false, lt-ltb, le-ltb, leb-true, le-leb, eqb-true, eqb-false, eq-eqb, ne_eqb}
use Rattle.words.specs.Sizes.{object, stride, domain_of, space_of, places, records, greatest_depth}
use Rattle.words.proofs.BitLaws.{within_le}
use Rattle.interface.specs.Basics.{all_below}
use Rattle.layout.specs.declared.Place.{Place}
use Rattle.layout.specs.Numbers.{linked}
use Rattle.layout.proofs.NumberLaws.{linked_inside}
use Rattle.interface.specs.Places.{Cap, State, Tables, live, nothing, free, cap_at, shown, kind_of, greatest_of, greatest, places_in}
use Rattle.interface.specs.Boot.{hypervisor}
use Rattle.interface.specs.Damage.{same_cap, fixed_place, has_pd, null_place, is_resource, parentless_place, live_place, shallow, parent_fits}
use Rattle.interface.proofs.Basics.BoolLaws.{cases, and_left, and_right, same_test, each_of_four}
use Rattle.interface.proofs.Basics.BelowLaws.{all_below_at, all_below_lem}
use Rattle.interface.proofs.Sound.PlaceFacts.{same_cap_lem, null_cap, null_test, depth_small, ChildOf, child_facts, child_test, Lineage, no_parent, child, LivePlace, live_facts, live_test}
use Rattle.record_rules.specs.RecordKeeping.{Kept}
use Rattle.place_rules.specs.PlaceKeeping.{place_keeps, blank}
use Rattle.place_rules.proofs.PlaceTests.{link_before, link_past, past_hypervisor, fixed_past, parent_past, place_parts}
use Rattle.place_rules.proofs.BlankLaws.{blank_null, null_blank}
use Rattle.std.specs.List.{list_all, range_with_len}
use Rattle.record_rules.proofs.TailLaws.{from_range, from_at, from_so}
use Rattle.place_pass.specs.PassKeeping.{quick_keeps, group, run}
use Rattle.place_pass.proofs.GroupLaws.{domain_without_pd}
use Rattle.place_pass.proofs.BootPlaceLaws.{hypervisor_below}

-- whether the domain of a place is 0 or has a PD
abbrev homely : State → ℕ → Bool
homely s p = eqb (domain_of p) hypervisor || has_pd s (domain_of p)

-- the greatest permissions of an object are those of its kind, and a free record has none
greatest_there : (space kind : ℕ) → space ≡ object → greatest space kind ≡ greatest_of kind
greatest_there space kind e = rw e

-- whether a number names an object that allows some permissions
module _ (resource permissions kind : ℕ) where
  pub names_none : records ≤ resource → false ≡ (ltb resource records && leb permissions (greatest_of kind))
  names_none past = rw (le-ltb resource records past)

  pub names_one : (most : ℕ) → resource < records → most ≡ greatest_of kind → leb permissions most ≡ (ltb resource records && leb permissions (greatest_of kind))
  names_one most inside e = rw (lt-ltb resource records inside, e)

module _ (s : State) (p : ℕ) (past : stride ≤ p) (cap : Cap) (held : cap ≡ s.caps p) where
  -- the ways through the test
  pub quick_null : (empty : Cap) (same : Bool) → cap.permissions ≡ 0 → empty ≡ nothing → same ≡ same_cap cap empty → same ≡ quick_keeps s p
  unfolding quick_keeps
  quick_null empty same dead is_empty is_same = is_same ∙ rw (← held, is_empty, le-ltb p stride past, eq-eqb cap.permissions 0 dead)

  module _ (space : ℕ) (home : Bool) (alive : cap.permissions ≡ 0 → ⊥) (in_space : space ≡ space_of p) (at_home : home ≡ homely s p) where
    quick_root : (named : Bool) → cap.parent ≡ 0 →
        named ≡ (ltb cap.resource records && leb cap.permissions (greatest_of (kind_of s cap.resource))) →
        (home && eqb space object && eqb cap.depth 0 && named) ≡ quick_keeps s p
    unfolding quick_keeps
    quick_root named none is_named =
        rw (← held, le-ltb p stride past, ne_eqb cap.permissions 0 alive, eq-eqb cap.parent 0 none, in_space, at_home, is_named)

    quick_child : (fits : Bool) → (cap.parent ≡ 0 → ⊥) → fits ≡ parent_fits s space cap (cap.parent - 1) →
        (home && fits && leb cap.depth greatest_depth) ≡ quick_keeps s p
    unfolding quick_keeps
    quick_child fits some is_fits =
        rw (is_fits, in_space, ← held, le-ltb p stride past, ne_eqb cap.permissions 0 alive, ne_eqb cap.parent 0 some, at_home)

  -- and those of a domain with a PD
  module _ (space : ℕ) (alive : cap.permissions ≡ 0 → ⊥) (in_space : space ≡ space_of p) (at_home : true ≡ homely s p) where
    pub child_at_home : (fits : Bool) (found : (Option Place)) (parent : Place) → found ≡ linked cap.parent → found ≡ Some parent →
        fits ≡ parent_fits s space cap parent.0 → (leb cap.depth greatest_depth && fits) ≡ quick_keeps s p
    child_at_home fits found parent is_found leads is_fits =
        let some : cap.parent ≡ 0 → ⊥ = λ none. omega (arith, (linked_inside cap.parent parent (sym is_found ∙ leads)).0) in
        and_comm (leb cap.depth greatest_depth) fits ∙
        quick_child space true alive in_space at_home fits some (rw (link_before cap.parent parent is_found leads) at is_fits)

    -- no place is a parent past the last, so a place that is no child has no parent or breaks the rules
    pub root_at_home : (named : Bool) (found : (Option Place)) → found ≡ linked cap.parent → found ≡ None →
        named ≡ (ltb cap.resource records && leb cap.permissions (greatest_of (kind_of s cap.resource))) →
        (eqb cap.parent 0 && eqb space object && eqb cap.depth 0 && named) ≡ quick_keeps s p
    root_at_home named found is_found no_child is_named =
        cases (eqb cap.parent 0)
        (λ (t : eqb cap.parent 0 ≡ true). rw t (quick_root space true alive in_space at_home named (eqb-true cap.parent 0 t) is_named))
        (λ (f : eqb cap.parent 0 ≡ false).
        let some : cap.parent ≡ 0 → ⊥ = eqb-false cap.parent 0 f in
        let past : places ≤ cap.parent - 1 = link_past cap.parent some is_found no_child in
        rw f (quick_child space true alive in_space at_home false some (parent_past s p space cap (cap.parent - 1) past)))

-- a place of domain 0 passes
quick_early : (s : State) (p : ℕ) → p < stride → quick_keeps s p ≡ true
unfolding quick_keeps
quick_early s p l = rw (lt-ltb p stride l)

-- a place that is live has some permission
alive_some : (cap : Cap) → live cap ≡ true → cap.permissions ≡ 0 → ⊥
alive_some cap t e = omega (arith, ltb-true 0 cap.permissions t)

-- an object capability with a permission that its kind allows names a used object
module _ (s : State) (p : ℕ) (o : space_of p ≡ object) (alive : live (s.caps p) ≡ true) (inside : ltb (s.caps p).resource records ≡ true)
    (allowed : leb (s.caps p).permissions (greatest_of (kind_of s (s.caps p).resource)) ≡ true) where
  object_bounded : (s.caps p).permissions ≤ greatest (space_of p) (kind_of s (s.caps p).resource)
  object_bounded =
      rw (greatest_there (space_of p) (kind_of s (s.caps p).resource) o)
      (leb-true (s.caps p).permissions (greatest_of (kind_of s (s.caps p).resource)) allowed)

  object_named : is_resource s (space_of p) (s.caps p).resource ≡ true
  object_named =
      cases (eqb (kind_of s (s.caps p).resource) free)
      (λ (f : eqb (kind_of s (s.caps p).resource) free ≡ true).
      let none : (s.caps p).permissions ≤ 0 =
      rw (eqb-true (kind_of s (s.caps p).resource) free f) at (leb-true (s.caps p).permissions (greatest_of (kind_of s (s.caps p).resource)) allowed) in
      absurd (omega (arith, ltb-true 0 (s.caps p).permissions alive)))
      (λ (u : eqb (kind_of s (s.caps p).resource) free ≡ false). rw (o, inside, u))

-- what the test tells of a live place outside domain 0: it has no parent and names an object, or it has one
data Late (s : State) (p : ℕ) : Type 0 where
  late_root : homely s p ≡ true → (s.caps p).parent ≡ 0 → (s.caps p).depth ≡ 0 → parentless_place s p ≡ true →
      is_resource s (space_of p) (s.caps p).resource ≡ true → (s.caps p).permissions ≤ greatest (space_of p) (kind_of s (s.caps p).resource) → Late s p
  late_child : homely s p ≡ true → (q : ℕ) → ChildOf s p q → (s.caps p).depth ≤ greatest_depth → Late s p

module _ (s : State) (p : ℕ) (past : stride ≤ p) (alive : live (s.caps p) ≡ true) where
  abbrev some_permission : (s.caps p).permissions ≡ 0 → ⊥
  some_permission = alive_some (s.caps p) alive

  late : quick_keeps s p ≡ true → Late s p
  late kept =
      cases (eqb (s.caps p).parent 0)
      (λ (t : eqb (s.caps p).parent 0 ≡ true).
      let none : (s.caps p).parent ≡ 0 = eqb-true (s.caps p).parent 0 t in
      let named = ltb (s.caps p).resource records && leb (s.caps p).permissions (greatest_of (kind_of s (s.caps p).resource)) in
      let parts =
      each_of_four (homely s p) (eqb (space_of p) object) (eqb (s.caps p).depth 0) named
      (quick_root s p past (s.caps p) refl (space_of p) (homely s p) some_permission refl refl named none refl ∙ kept) in
      let o : space_of p ≡ object = eqb-true (space_of p) object parts.1 in
      let inside = and_left (ltb (s.caps p).resource records) (leb (s.caps p).permissions (greatest_of (kind_of s (s.caps p).resource))) parts.3 in
      let allowed = and_right (ltb (s.caps p).resource records) (leb (s.caps p).permissions (greatest_of (kind_of s (s.caps p).resource))) parts.3 in
      late_root parts.0 none (eqb-true (s.caps p).depth 0 parts.2) (rw (parts.2, parts.1)) (object_named s p o alive inside allowed)
      (object_bounded s p o alive inside allowed))
      (λ (f : eqb (s.caps p).parent 0 ≡ false).
      let some : (s.caps p).parent ≡ 0 → ⊥ = eqb-false (s.caps p).parent 0 f in
      let q = (s.caps p).parent - 1 in
      let fits = parent_fits s (space_of p) (s.caps p) q in
      let shallows = leb (s.caps p).depth greatest_depth in
      let tested = quick_child s p past (s.caps p) refl (space_of p) (homely s p) some_permission refl refl fits some refl ∙ kept in
      let two = and_left (homely s p && fits) shallows tested in
      late_child (and_left (homely s p) fits two) q (child_facts s p q (omega arith) (and_right (homely s p) fits two))
      (leb-true (s.caps p).depth greatest_depth (and_right (homely s p && fits) shallows tested)))

-- a depth that is not above the greatest
shallow_so : (s : State) (p : ℕ) → (s.caps p).depth ≤ greatest_depth → shallow s p ≡ true
unfolding shallow
shallow_so s p l = le-leb (s.caps p).depth greatest_depth l

-- where domain 0 keeps the rules and every place passes, a live place names a resource and has no permission above the greatest: so does its parent, whose depth is one less
module _ (s : State) (early : (p : ℕ) → p < stride → place_keeps s p ≡ true) (all : (p : ℕ) → p < places → quick_keeps s p ≡ true) where
  abbrev Named : ℕ → Type 0
  Named p =
      (is_resource s (space_of p) (s.caps p).resource ≡ true) × ((s.caps p).permissions ≤ greatest (space_of p) (kind_of s (s.caps p).resource))

  early_named : (p : ℕ) → p < stride → live (s.caps p) ≡ true → Named p
  early_named p l alive = let k = live_facts s p (place_parts s p (early p l)).2 alive in (k.names, k.bounded)

  inherited : (p q : ℕ) → ChildOf s p q → Named q → Named p
  inherited p q c (names, bounded) = (
    rw (c.same_space, c.same_resource) at names,
    let same : (s.caps q).permissions ≤ greatest (space_of p) (kind_of s (s.caps p).resource) = rw (c.same_space, c.same_resource) at bounded in
        omega (arith, within_le (s.caps p).permissions (s.caps q).permissions c.included),
  )

  named_late : (p : ℕ) → Late s p → ((q : ℕ) → ChildOf s p q → Named q) → Named p
  named_late p (late_root home none root fits names bounded) above = (names, bounded)
  named_late p (late_child home q c shallows) above = inherited p q c (above q c)

  named_by : (p : ℕ) → p < places → live (s.caps p) ≡ true → ((q : ℕ) → ChildOf s p q → Named q) → Named p
  named_by p l alive above =
      cases (ltb p stride) (λ (t : ltb p stride ≡ true). early_named p (ltb-true p stride t) alive)
      (λ (f : ltb p stride ≡ false). named_late p (late s p (ltb-false p stride f) alive (all p l)) above)

  named_at : (depth p : ℕ) → (s.caps p).depth ≡ depth → p < places → live (s.caps p) ≡ true → Named p
  named_at zero p e l alive = named_by p l alive (λ q c. absurd (omega (arith, c.deeper)))
  named_at (suc depth) p e l alive =
      named_by p l alive (λ q c. named_at depth q (omega (arith, c.deeper)) c.is_place c.alive)

  -- so it keeps the rules
  late_live : (p : ℕ) → p < places → Late s p → Named p → LivePlace s p
  late_live p l (late_root home none root fits names bounded) named =
      record { home = home; names = named.0; bounded = named.1; lineage = no_parent none fits }
  late_live p l (late_child home q c shallows) named = record { home = home; names = named.0; bounded = named.1; lineage = child q c }

  late_shallow : (p : ℕ) → Late s p → (s.caps p).depth ≤ greatest_depth
  late_shallow p (late_root home none root fits names bounded) = omega arith
  late_shallow p (late_child home q c shallows) = shallows

  late_kept : (p : ℕ) → stride ≤ p → p < places → place_keeps s p ≡ true
  unfolding place_keeps
  late_kept p past l =
      let reached : live (s.caps p) ≡ true → Late s p = λ alive. late s p past alive (all p l) in
      let zeros : live (s.caps p) ≡ false → s.caps p ≡ nothing =
      λ dead.
      let none : (s.caps p).permissions ≡ 0 = omega (arith, ltb-false 0 (s.caps p).permissions dead) in
      same_cap_lem (s.caps p) nothing (quick_null s p past (s.caps p) refl nothing (same_cap (s.caps p) nothing) none refl refl ∙ all p l) in
      let lives : live_place s p ≡ true = live_test s p (λ alive. late_live p l (reached alive) (named_at (s.caps p).depth p refl l alive)) in
      let nulls : null_place s p ≡ true = null_test s p zeros in
      let shallows : shallow s p ≡ true =
      cases (live (s.caps p)) (λ (alive : live (s.caps p) ≡ true). shallow_so s p (late_shallow p (reached alive)))
      (λ (dead : live (s.caps p) ≡ false). shallow_so s p (omega (arith, ap (λ (cap : Cap). cap.depth) (zeros dead)))) in
      rw (sym (fixed_past s p past), nulls, lives, shallows)

-- a place that keeps the rules passes
module _ (s : State) (p : ℕ) (past : stride ≤ p) (kept : place_keeps s p ≡ true) where
  kept_lineage : live (s.caps p) ≡ true → LivePlace s p → Lineage s p → quick_keeps s p ≡ true
  kept_lineage alive k (no_parent none fits) =
      let o : eqb (space_of p) object ≡ true =
      rw (past_hypervisor p past, or-false (eqb (space_of p) object)) at
      (and_right (eqb (s.caps p).depth 0) (eqb (space_of p) object || eqb (domain_of p) hypervisor) fits) in
      let root = and_left (eqb (s.caps p).depth 0) (eqb (space_of p) object || eqb (domain_of p) hypervisor) fits in
      let named = ltb (s.caps p).resource records && leb (s.caps p).permissions (greatest_of (kind_of s (s.caps p).resource)) in
      let names : (ltb (s.caps p).resource records && not (eqb (kind_of s (s.caps p).resource) free)) ≡ true = rw o at k.names in
      let inside : ltb (s.caps p).resource records ≡ true =
      and_left (ltb (s.caps p).resource records) (not (eqb (kind_of s (s.caps p).resource) free)) names in
      let bounded : (s.caps p).permissions ≤ greatest_of (kind_of s (s.caps p).resource) =
      rw (greatest_there (space_of p) (kind_of s (s.caps p).resource) (eqb-true (space_of p) object o)) at k.bounded in
      let is_named : named ≡ true = rw (inside, le-leb (s.caps p).permissions (greatest_of (kind_of s (s.caps p).resource)) bounded) in
      sym (quick_root s p past (s.caps p) refl (space_of p) (homely s p) (alive_some (s.caps p) alive) refl refl named none refl) ∙
      rw (k.home, o, root, is_named)
  kept_lineage alive k (child q c) =
      let back : (s.caps p).parent - 1 ≡ q = omega (arith, c.linked) in
      let fits = parent_fits s (space_of p) (s.caps p) ((s.caps p).parent - 1) in
      let is_fits : fits ≡ true = rw back (child_test s p q c) in
      let shallows = depth_small s p (place_parts s p kept).3 in
      sym (quick_child s p past (s.caps p) refl (space_of p) (homely s p) (alive_some (s.caps p) alive) refl refl fits (omega (arith, c.linked)) refl) ∙
      rw (k.home, is_fits, le-leb (s.caps p).depth greatest_depth shallows)

  kept_quick : quick_keeps s p ≡ true
  kept_quick =
      let parts = place_parts s p kept in
      cases (live (s.caps p))
      (λ (alive : live (s.caps p) ≡ true). let k = live_facts s p parts.2 alive in kept_lineage alive k k.lineage)
      (λ (dead : live (s.caps p) ≡ false).
      let zeros : s.caps p ≡ nothing = null_cap s p parts.1 dead in
      let none : (s.caps p).permissions ≡ 0 = ap (λ (cap : Cap). cap.permissions) zeros in
      sym (quick_null s p past (s.caps p) refl nothing (same_cap (s.caps p) nothing) none refl refl) ∙ rw zeros)

-- so the shorter test of all places decides
pub quick_decides : (tables : Tables) {pds : ℕ} → Kept tables.objects pds → all_below stride (fixed_place (places_in tables.places)) ≡ true →
    all_below places (quick_keeps (shown tables)) ≡ all_below places (place_keeps (shown tables))
quick_decides tables kept fixed =
    let s = shown tables in
    let early : (p : ℕ) → p < stride → place_keeps s p ≡ true = all_below_at stride (place_keeps s) (hypervisor_below tables kept fixed) in
    same_test (all_below places (quick_keeps s)) (all_below places (place_keeps s))
    (λ (t : all_below places (quick_keeps s) ≡ true).
    all_below_lem places (place_keeps s)
    (λ p l.
    cases (ltb p stride) (λ (b : ltb p stride ≡ true). early p (ltb-true p stride b))
    (λ (f : ltb p stride ≡ false). late_kept s early (all_below_at places (quick_keeps s) t) p (ltb-false p stride f) l)))
    (λ (t : all_below places (place_keeps s) ≡ true).
    all_below_lem places (quick_keeps s)
    (λ p l.
    cases (ltb p stride) (λ (b : ltb p stride ≡ true). quick_early s p (ltb-true p stride b))
    (λ (f : ltb p stride ≡ false). kept_quick s p (ltb-false p stride f) (all_below_at places (place_keeps s) t p l))))

-- domain 0 passes
pub quick_start : (s : State) → all_below stride (quick_keeps s) ≡ true
quick_start s = all_below_lem stride (quick_keeps s) (quick_early s)

-- places are blank exactly where each run of them is
pub runs_decide : (table : List ℕ) (first : ℕ) → first ≤ places → first % run ≡ 0 →
    list_all (λ k. blank table (run * k) run) (range_with_len (first / run) (places / run - first / run)) ≡ blank table first (places - first)
runs_decide table first inside aligned =
    let each : ℕ → Bool = λ k. blank table (run * k) run in
    let count = places / run in
    from_range count (first / run) each (omega arith) ∙
    same_test (all_below count (λ k. ltb k (first / run) || each k)) (blank table first (places - first))
    (λ h.
    null_blank table first (places - first)
    (λ p from before.
    blank_null table (run * (p / run)) run p (omega arith) (omega arith) (from_at count each (first / run) h (p / run) (omega arith) (omega arith))))
    (λ h.
    from_so count each (first / run)
    (λ k past b. null_blank table (run * k) run (λ p from before. blank_null table first (places - first) p (omega arith) (omega arith) h)))

-- places that begin with one that has a permission are not blank
pub live_not_blank : (table : List ℕ) (first : ℕ) (cap : Cap) → cap ≡ cap_at table first → (cap.permissions ≡ 0 → ⊥) → false ≡ blank table first group
live_not_blank table first cap is some =
    cases (blank table first group)
    (λ (t : blank table first group ≡ true).
    absurd (some (ap (λ (held : Cap). held.permissions) (is ∙ blank_null table first group first (omega arith) (omega arith) t))))
    (λ (f : blank table first group ≡ false). sym f)

-- blank places pass
pub blank_keeps : (tables : Tables) (first count : ℕ) → stride ≤ first → all_below first (quick_keeps (shown tables)) ≡ true →
    blank tables.places first count ≡ true → all_below (first + count) (quick_keeps (shown tables)) ≡ true
blank_keeps tables first count beyond before empty =
    let s = shown tables in
    all_below_lem (first + count) (quick_keeps s)
    (λ p l.
    cases (ltb p first) (λ (b : ltb p first ≡ true). all_below_at first (quick_keeps s) before p (ltb-true p first b))
    (λ (f : ltb p first ≡ false).
    let same : s.caps p ≡ nothing = blank_null tables.places first count p (ltb-false p first f) l empty in
    let past : stride ≤ p = omega (arith, beyond, ltb-false p first f) in
    sym (quick_null s p past (s.caps p) refl nothing (same_cap (s.caps p) nothing) (ap (λ (cap : Cap). cap.permissions) same) refl refl) ∙ rw same))

-- a place of a domain without a PD passes only where it is null
without_pd_null : (s : State) (p : ℕ) → stride ≤ p → homely s p ≡ false → quick_keeps s p ≡ true → s.caps p ≡ nothing
without_pd_null s p past away kept =
    cases (eqb (s.caps p).permissions 0)
    (λ (t : eqb (s.caps p).permissions 0 ≡ true).
    same_cap_lem (s.caps p) nothing
    (quick_null s p past (s.caps p) refl nothing (same_cap (s.caps p) nothing) (eqb-true (s.caps p).permissions 0 t) refl refl ∙ kept))
    (λ (f : eqb (s.caps p).permissions 0 ≡ false).
    let alive = eqb-false (s.caps p).permissions 0 f in
    cases (eqb (s.caps p).parent 0)
    (λ (t : eqb (s.caps p).parent 0 ≡ true).
    let named = ltb (s.caps p).resource records && leb (s.caps p).permissions (greatest_of (kind_of s (s.caps p).resource)) in
    absurd
    (true≢false
    (sym kept ∙ sym (quick_root s p past (s.caps p) refl (space_of p) (homely s p) alive refl refl named (eqb-true (s.caps p).parent 0 t) refl) ∙ rw away)))
    (λ (g : eqb (s.caps p).parent 0 ≡ false).
    let fits = parent_fits s (space_of p) (s.caps p) ((s.caps p).parent - 1) in
    absurd
    (true≢false
    (sym kept ∙ sym (quick_child s p past (s.caps p) refl (space_of p) (homely s p) alive refl refl fits (eqb-false (s.caps p).parent 0 g) refl) ∙ rw away))))

-- so the domains without a PD decide by being blank
pub blank_decides : (tables : Tables) {pds : ℕ} → Kept tables.objects pds → (first : ℕ) (answer : Bool) → stride ≤ first → stride * (pds + 1) ≤ first →
    first ≤ places → all_below first (quick_keeps (shown tables)) ≡ true → answer ≡ blank tables.places first (places - first) →
    answer ≡ all_below places (quick_keeps (shown tables))
blank_decides tables kept first answer beyond late small before asked =
    let s = shown tables in
    let count = places - first in
    let end : first + count ≡ places = omega arith in
    asked ∙
    same_test (blank tables.places first count) (all_below places (quick_keeps s))
    (λ (t : blank tables.places first count ≡ true). rw end at (blank_keeps tables first count beyond before t))
    (λ (t : all_below places (quick_keeps s) ≡ true).
    null_blank tables.places first count
    (λ p from inside.
    without_pd_null s p (omega arith) (domain_without_pd kept.numbered s.caps p (omega arith) (omega arith))
    (all_below_at places (quick_keeps s) t p (omega arith))))
