-- Steps that change places only: what each place has to keep for a sound state to stay sound, and that delegation and a new object's capability keep it.
use Prim.Native.Nat.{ℕ, zero, suc, ◌≤◌, ◌<◌}
use mathlib.Core.Path.{◌≡◌, refl, sym, ap, ◌∙◌}
use mathlib.Core.Bool.{true, false, not}
use native.Mathlib.Nat.{le_refl, le_trans}
use native.Mathlib.Numerals.{add-one}
use native.Mathlib.Omega.{arith}
use lib.Dec.{eqb, ltb}
use borrow.Author.Tests.{ltb-true, lt-ltb, le-leb, eqb-true, eqb-false, ne_eqb, not-true}
use Rattle.words.specs.Sizes.{domain_of, places, records, greatest_depth}
use Rattle.words.specs.Permissions.{delegated, within}
use Rattle.words.proofs.BitLaws.{within_itself, within_le, delegated_within_source}
use Rattle.interface.specs.Basics.{put}
use Rattle.interface.specs.Places.{Cap, State, live, nothing, parentless, free, SM, kind_of, greatest_of}
use Rattle.interface.specs.Boot.{hypervisor}
use Rattle.interface.specs.Damage.{fixed_record, fixed_place, interrupt_rule, unnamed_rule, used_first, pds_below, pd_rule, has_pd, is_ec, ec_rule, sc_rule, pt_rule, shallow}
use Rattle.interface.specs.Effects.{give, hold, fills, handed, act}
use Rattle.interface.proofs.Basics.BoolLaws.{cases, not_both, or_right, each_of_four}
use Rattle.interface.proofs.Basics.PutLaws.{put_same, put_other}
use Rattle.interface.proofs.Sound.Soundness.{Sound}
use Rattle.interface.proofs.Tables.Steps.{GiveFits, HoldFits}
use Rattle.interface.proofs.Sound.PlaceFacts.{null_cap, null_test, depth_small, some_live, ChildOf, Lineage, no_parent, child, LivePlace, live_facts, live_test, home_not_hypervisor, kind_small}

-- a state with other places
abbrev pub with_caps : State → (ℕ → Cap) → State
with_caps s caps = record { caps = caps; objects = s.objects }

-- what a place has to keep when places change
pub record PlaceKept (s : State) (caps : ℕ → Cap) (p : ℕ) : Type 0 where
  pub fixed : domain_of p ≡ hypervisor → caps p ≡ s.caps p
  pub null : live (caps p) ≡ false → caps p ≡ nothing
  pub alive : live (caps p) ≡ true → LivePlace (with_caps s caps) p
  pub flat : (caps p).depth ≤ greatest_depth

fixed_kept : (s : State) (caps : ℕ → Cap) (p : ℕ) → (domain_of p ≡ hypervisor → caps p ≡ s.caps p) → fixed_place s p ≡ true → fixed_place (with_caps s caps) p ≡ true
unfolding fixed_place
fixed_kept s caps p f h =
    cases (eqb (domain_of p) hypervisor)
    (λ (t : eqb (domain_of p) hypervisor ≡ true). rw (f (eqb-true (domain_of p) hypervisor t)) h)
    (λ (d : eqb (domain_of p) hypervisor ≡ false). rw d)

pub places_kept : (s : State) (caps : ℕ → Cap) → Sound s → ((p : ℕ) → p < places → PlaceKept s caps p) → Sound (with_caps s caps)
unfolding fixed_record interrupt_rule unnamed_rule used_first pds_below pd_rule has_pd is_ec ec_rule sc_rule pt_rule shallow
places_kept s caps k f =
    record {
      fixed_records = k.fixed_records;
      fixed_places = λ p l. fixed_kept s caps p (f p l).fixed (k.fixed_places p l);
      interrupts = k.interrupts;
      unnameds = k.unnameds;
      used_firsts = k.used_firsts;
      pds = k.pds;
      ecs = k.ecs;
      scs = k.scs;
      pts = k.pts;
      nulls = λ p l. null_test (with_caps s caps) p (f p l).null;
      lives = λ p l. live_test (with_caps s caps) p (f p l).alive;
      shallows = λ p l. le-leb (caps p).depth greatest_depth (f p l).flat;
    }

-- a capability that keeps all but permissions, of which it gains none
pub record Reduced (old new : Cap) : Type 0 where
  pub resource_kept : new.resource ≡ old.resource
  pub parent_kept : new.parent ≡ old.parent
  pub depth_kept : new.depth ≡ old.depth
  pub fewer : within new.permissions old.permissions ≡ true

pub same_reduced : (old new : Cap) → new ≡ old → Reduced old new
same_reduced old new e =
    rw e (record { resource_kept = refl; parent_kept = refl; depth_kept = refl; fewer = within_itself old.permissions })

-- a parent that stays the parent of a place
pub record ParentKept (s : State) (caps : ℕ → Cap) (p q : ℕ) : Type 0 where
  pub alive : live (caps q) ≡ true
  pub reduced : Reduced (s.caps q) (caps q)
  pub included : within (caps p).permissions (caps q).permissions ≡ true

still_child : (s : State) (caps : ℕ → Cap) (p q : ℕ) → ChildOf s p q → Reduced (s.caps p) (caps p) → ParentKept s caps p q → ChildOf (with_caps s caps) p q
still_child s caps p q c r k =
    record {
      linked = r.parent_kept ∙ c.linked;
      is_place = c.is_place;
      alive = k.alive;
      same_space = c.same_space;
      same_resource = k.reduced.resource_kept ∙ c.same_resource ∙ sym r.resource_kept;
      included = k.included;
      deeper = omega (arith, c.deeper, k.reduced.depth_kept, r.depth_kept);
    }

still_descended : (s : State) (caps : ℕ → Cap) (p : ℕ) → Lineage s p → Reduced (s.caps p) (caps p) → ((q : ℕ) → ChildOf s p q → ParentKept s caps p q) →
    Lineage (with_caps s caps) p
still_descended s caps p (no_parent e t) r f = no_parent (r.parent_kept ∙ e) (rw r.depth_kept t)
still_descended s caps p (child q c) r f = child q (still_child s caps p q c r (f q c))

-- a live place that is reduced, and whose parent stays its parent, keeps its rule
pub still_live : (s : State) (caps : ℕ → Cap) (p : ℕ) → LivePlace s p → Reduced (s.caps p) (caps p) → ((q : ℕ) → ChildOf s p q → ParentKept s caps p q) →
    LivePlace (with_caps s caps) p
unfolding has_pd
still_live s caps p k r f =
    record {
      home = k.home;
      names = rw r.resource_kept k.names;
      bounded = rw r.resource_kept (omega (arith, k.bounded, within_le (caps p).permissions (s.caps p).permissions r.fewer));
      lineage = still_descended s caps p k.lineage r f;
    }

-- a null place, filled
module _ (s : State) (place : ℕ) (cap : Cap) (null : live (s.caps place) ≡ false) where
  abbrev filled : ℕ → Cap
  filled = put s.caps place cap

  -- a live place is another, and stays
  beside : (p : ℕ) → live (s.caps p) ≡ true → filled p ≡ s.caps p
  beside p a = put_other s.caps place cap p (λ (e : p ≡ place). not_both (live (s.caps place)) (rw e at a) null)

  filled_parent : (p q : ℕ) → filled p ≡ s.caps p → ChildOf s p q → ParentKept s filled p q
  filled_parent p q e c =
      let same : filled q ≡ s.caps q = beside q c.alive in
      record {
        alive = rw same c.alive;
        reduced = same_reduced (s.caps q) (filled q) same;
        included = rw (e, same) c.included;
      }

  filled_other : Sound s → (p : ℕ) → p < places → (p ≡ place → ⊥) → PlaceKept s filled p
  filled_other k p l n =
      let same : filled p ≡ s.caps p = put_other s.caps place cap p n in
      record {
        fixed = λ e. same;
        null = λ (d : live (filled p) ≡ false). same ∙ null_cap s p (k.nulls p l) (rw same at d);
        alive =
            λ (a : live (filled p) ≡ true).
            still_live s filled p (live_facts s p (k.lives p l) (rw same at a)) (same_reduced (s.caps p) (filled p) same)
            (λ q c. filled_parent p q same c);
        flat = rw same (depth_small s p (k.shallows p l));
      }

  filled_there : Sound s → has_pd s (domain_of place) ≡ true → live cap ≡ true → cap.depth ≤ greatest_depth → LivePlace (with_caps s filled) place →
      PlaceKept s filled place
  filled_there k home alive flat facts =
      let new : filled place ≡ cap = put_same s.caps place cap in
      record {
        fixed = λ (e : domain_of place ≡ hypervisor). absurd (home_not_hypervisor s (domain_of place) k home e);
        null = λ (d : live (filled place) ≡ false). not_both (live cap) alive (rw new at d);
        alive = λ a. facts;
        flat = rw new flat;
      }

  pub filled_sound : Sound s → has_pd s (domain_of place) ≡ true → live cap ≡ true → cap.depth ≤ greatest_depth → LivePlace (with_caps s filled) place →
      Sound (with_caps s filled)
  filled_sound k home alive flat facts =
      places_kept s filled k
      (λ p l.
      cases (eqb p place) (λ (t : eqb p place ≡ true). rw (eqb-true p place t) (filled_there k home alive flat facts))
      (λ (d : eqb p place ≡ false). filled_other k p l (eqb-false p place d)))

-- delegation

module _ (s : State) (destination source mask : ℕ) (k : Sound s) (fit : GiveFits s destination source) (full : fills s.caps destination source mask ≡ true) where
  -- what filling tells of the two places
  given : (live (s.caps source) ≡ true) × (ltb (s.caps source).depth greatest_depth ≡ true) × (not (live (s.caps destination)) ≡ true) ×
      (not (eqb (delegated (s.caps source).permissions mask) 0) ≡ true)
  unfolding fills
  given =
      each_of_four (live (s.caps source)) (ltb (s.caps source).depth greatest_depth) (not (live (s.caps destination)))
      (not (eqb (delegated (s.caps source).permissions mask) 0)) full

  given_null : live (s.caps destination) ≡ false
  given_null = not-true (live (s.caps destination)) given.2

  abbrev after : ℕ → Cap
  after = put s.caps destination (handed (s.caps source) source mask)

  given_child : ChildOf (with_caps s after) destination source
  given_child =
      let new : after destination ≡ handed (s.caps source) source mask = put_same s.caps destination (handed (s.caps source) source mask) in
      let same : after source ≡ s.caps source = beside s destination (handed (s.caps source) source mask) given_null source given.0 in
      record {
        linked = ap (λ (c : Cap). c.parent) new ∙ add-one source;
        is_place = fit.source_small;
        alive = rw same given.0;
        same_space = sym fit.same_space;
        same_resource = rw (same, new);
        included = rw (same, new) (delegated_within_source (s.caps source).permissions mask);
        deeper = rw (same, new);
      }

  given_live : LivePlace (with_caps s after) destination
  unfolding has_pd
  given_live =
      let new : after destination ≡ handed (s.caps source) source mask = put_same s.caps destination (handed (s.caps source) source mask) in
      let old : LivePlace s source = live_facts s source (k.lives source fit.source_small) given.0 in
      let less = within_le (delegated (s.caps source).permissions mask) (s.caps source).permissions (delegated_within_source (s.caps source).permissions mask) in
      record {
        home = or_right (eqb (domain_of destination) hypervisor) (has_pd s (domain_of destination)) fit.at_home;
        names = rw (new, fit.same_space) old.names;
        bounded = rw (new, fit.same_space) (le_trans less old.bounded);
        lineage = child source given_child;
      }

  given_sound : Sound (with_caps s after)
  given_sound =
      let deep = ltb-true (s.caps source).depth greatest_depth given.1 in
      let some : delegated (s.caps source).permissions mask ≡ 0 → ⊥ =
      eqb-false (delegated (s.caps source).permissions mask) 0 (not-true (eqb (delegated (s.caps source).permissions mask) 0) given.3) in
      filled_sound s destination (handed (s.caps source) source mask) given_null k fit.at_home
      (some_live (delegated (s.caps source).permissions mask) some) (omega arith) given_live

pub give_sound : (s : State) (destination source mask : ℕ) → Sound s → GiveFits s destination source → Sound (act (give destination source mask) s)
unfolding act
give_sound s destination source mask k fit =
    cases (fills s.caps destination source mask)
    (λ (t : fills s.caps destination source mask ≡ true). rw t (given_sound s destination source mask k fit t))
    (λ (f : fills s.caps destination source mask ≡ false). rw f k)

-- every kind of object has a permission
greatest_some : (kind : ℕ) → kind ≤ SM → (kind ≡ free → ⊥) → greatest_of kind ≡ 0 → ⊥
greatest_some zero l used e = used refl
greatest_some (suc zero) l used e = omega arith
greatest_some (suc (suc zero)) l used e = omega arith
greatest_some (suc (suc (suc zero))) l used e = omega arith
greatest_some (suc (suc (suc (suc zero)))) l used e = omega arith
greatest_some (suc (suc (suc (suc (suc zero))))) l used e = omega arith
greatest_some (suc (suc (suc (suc (suc (suc n)))))) l used e = omega arith

-- an object's first capability
pub hold_sound : (s : State) (place number : ℕ) → Sound s → HoldFits s place number → Sound (act (hold place number) s)
unfolding act has_pd
hold_sound s place number k fit =
    filled_sound s place cap fit.null k fit.at_home (some_live (greatest_of (kind_of s number)) some) (omega arith) facts
  where
    cap : Cap
    cap = parentless number (greatest_of (kind_of s number))

    some : greatest_of (kind_of s number) ≡ 0 → ⊥
    some = greatest_some (kind_of s number) (kind_small s number (k.unnameds number fit.is_record)) fit.used

    new : put s.caps place cap place ≡ cap
    new = put_same s.caps place cap

    facts : LivePlace (with_caps s (put s.caps place cap)) place
    facts =
        record {
          home = or_right (eqb (domain_of place) hypervisor) (has_pd s (domain_of place)) fit.at_home;
          names = rw (new, fit.is_object, lt-ltb number records fit.is_record, ne_eqb (kind_of s number) free fit.used);
          bounded = rw (new, fit.is_object) (le_refl (greatest_of (kind_of s number)));
          lineage = no_parent (ap (λ (c : Cap). c.parent) new) (rw (new, fit.is_object));
        }
