-- Places as facts: what the rules of damage say of null places, places of domain 0 and live places, and of the records they rest on; from tests to facts, and back.
use Prim.Native.Nat.{ℕ, suc, ◌+◌, ◌-◌, ◌≤◌, ◌<◌}
use mathlib.Core.Path.{◌≡◌, ap}
use mathlib.Core.Bool.{true, false, ◌&&◌, ◌||◌}
use native.Mathlib.Omega.{arith}
use lib.Dec.{eqb, leb, ltb}
use borrow.Author.Tests.{ltb-true, lt-ltb, leb-true, le-leb, eqb-true, eqb-false, eq-eqb, ne_eqb}
use Rattle.words.specs.Sizes.{domains, object, domain_of, space_of, selector_of, places, records, record_words, greatest_depth}
use Rattle.words.specs.Permissions.{within}
use Rattle.words.proofs.BitLaws.{within_le}
use Rattle.std.specs.Prelude.{if◌then◌else◌}
use Rattle.interface.specs.Basics.{all_below}
use Rattle.interface.specs.Places.{Cap, State, live, nothing, free, PD, SM, domain_word, named_words, kind_of, greatest}
use Rattle.interface.specs.Boot.{hypervisor, root_pd, hypervisor_cap, boot_cap, boot}
use Rattle.interface.specs.Damage.{same_cap, fixed_place, unnamed_rule, pds_below, pd_rule, has_pd, null_place, is_resource, parentless_place, child_place, lineage_keeps, live_place, shallow}
use Rattle.interface.proofs.Basics.BoolLaws.{cases, and_left, and_right, each_of_four}
use Rattle.interface.proofs.Basics.BelowLaws.{any_below_at}
use Rattle.interface.proofs.Sound.Soundness.{Sound}

-- two places that show the same are the same
pub same_cap_lem : (a b : Cap) → same_cap a b ≡ true → a ≡ b
same_cap_lem a b h =
    let parts = each_of_four (eqb a.resource b.resource) (eqb a.permissions b.permissions) (eqb a.parent b.parent) (eqb a.depth b.depth) h in
    λ i.
    record {
      resource = eqb-true a.resource b.resource parts.0 i;
      permissions = eqb-true a.permissions b.permissions parts.1 i;
      parent = eqb-true a.parent b.parent parts.2 i;
      depth = eqb-true a.depth b.depth parts.3 i;
    }

-- a null place is all 0
pub null_cap : (s : State) (p : ℕ) → null_place s p ≡ true → live (s.caps p) ≡ false → s.caps p ≡ nothing
unfolding null_place
null_cap s p h d = same_cap_lem (s.caps p) nothing (rw d at h)

pub null_test : (s : State) (p : ℕ) → (live (s.caps p) ≡ false → s.caps p ≡ nothing) → null_place s p ≡ true
unfolding null_place
null_test s p f =
    cases (live (s.caps p)) (λ (l : live (s.caps p) ≡ true). rw l) (λ (d : live (s.caps p) ≡ false). rw (f d))

-- no place is deeper than the greatest depth
pub depth_small : (s : State) (p : ℕ) → shallow s p ≡ true → (s.caps p).depth ≤ greatest_depth
unfolding shallow
depth_small s p h = leb-true (s.caps p).depth greatest_depth h

-- a place of domain 0 is as at boot
pub boot_cap_lem : (s : State) (p : ℕ) → fixed_place s p ≡ true → domain_of p ≡ hypervisor → s.caps p ≡ boot.caps p
unfolding fixed_place
boot_cap_lem s p h e = same_cap_lem (s.caps p) (boot.caps p) (rw (eq-eqb (domain_of p) hypervisor e) at h)

-- places of domain 0 have no parent
hypervisor_parentless : (space selector : ℕ) → (hypervisor_cap space selector).parent ≡ 0
unfolding hypervisor_cap
hypervisor_parentless space selector =
    cases (ltb space object) (λ (t : ltb space object ≡ true). rw t)
    (λ (f : ltb space object ≡ false).
    cases (ltb selector root_pd) (λ (t : ltb selector root_pd ≡ true). rw (f, t)) (λ (g : ltb selector root_pd ≡ false). rw (f, g)))

pub fixed_parentless : (s : State) (p : ℕ) → fixed_place s p ≡ true → domain_of p ≡ hypervisor → (s.caps p).parent ≡ 0
unfolding boot_cap
fixed_parentless s p h e =
    rw (boot_cap_lem s p h e, eq-eqb (domain_of p) hypervisor e) (hypervisor_parentless (space_of p) (selector_of p))

-- a place with some permission is live
pub some_live : (permissions : ℕ) → (permissions ≡ 0 → ⊥) → ltb 0 permissions ≡ true
some_live permissions some = lt-ltb 0 permissions (omega arith)

-- a place with more permissions than a live one is live
pub more_live : (a b : Cap) → within a.permissions b.permissions ≡ true → live a ≡ true → live b ≡ true
more_live a b h l =
    lt-ltb 0 b.permissions (omega (arith, within_le a.permissions b.permissions h, ltb-true 0 a.permissions l))

-- a place and its parent
pub record ChildOf (s : State) (p parent : ℕ) : Type 0 where
  pub linked : (s.caps p).parent ≡ suc parent
  pub is_place : parent < places
  pub alive : live (s.caps parent) ≡ true
  pub same_space : space_of parent ≡ space_of p
  pub same_resource : (s.caps parent).resource ≡ (s.caps p).resource
  pub included : within (s.caps p).permissions (s.caps parent).permissions ≡ true
  pub deeper : (s.caps parent).depth + 1 ≡ (s.caps p).depth

-- a place has no parent, or one
pub data Lineage (s : State) (p : ℕ) : Type 0 where
  no_parent : (s.caps p).parent ≡ 0 → parentless_place s p ≡ true → Lineage s p
  child : (q : ℕ) → ChildOf s p q → Lineage s p

-- the facts of a live place
pub record LivePlace (s : State) (p : ℕ) : Type 0 where
  pub home : (eqb (domain_of p) hypervisor || has_pd s (domain_of p)) ≡ true
  pub names : is_resource s (space_of p) (s.caps p).resource ≡ true
  pub bounded : (s.caps p).permissions ≤ greatest (space_of p) (kind_of s (s.caps p).resource)
  pub lineage : Lineage s p

-- the test of a place and its parent, to the facts and back
pub child_facts : (s : State) (p q : ℕ) → (s.caps p).parent ≡ suc q → child_place s p q ≡ true → ChildOf s p q
child_facts s p q e h =
    let small = ltb q places in
    let alive = live (s.caps q) in
    let space = eqb (space_of q) (space_of p) in
    let resource = eqb (s.caps q).resource (s.caps p).resource in
    let inside = within (s.caps p).permissions (s.caps q).permissions in
    let deeper = eqb ((s.caps q).depth + 1) (s.caps p).depth in
    let five = and_left (small && alive && space && resource && inside) deeper h in
    let parts = each_of_four small alive space resource (and_left (small && alive && space && resource) inside five) in
    record {
      linked = e;
      is_place = ltb-true q places parts.0;
      alive = parts.1;
      same_space = eqb-true (space_of q) (space_of p) parts.2;
      same_resource = eqb-true (s.caps q).resource (s.caps p).resource parts.3;
      included = and_right (small && alive && space && resource) inside five;
      deeper = eqb-true ((s.caps q).depth + 1) (s.caps p).depth (and_right (small && alive && space && resource && inside) deeper h);
    }

pub child_test : (s : State) (p q : ℕ) → ChildOf s p q → child_place s p q ≡ true
child_test s p q c =
    rw (
      lt-ltb q places c.is_place,
      c.alive,
      eq-eqb (space_of q) (space_of p) c.same_space,
      eq-eqb (s.caps q).resource (s.caps p).resource c.same_resource,
      c.included,
      eq-eqb ((s.caps q).depth + 1) (s.caps p).depth c.deeper,
    )

-- the test of a place's lineage, to the facts and back
lineage_facts : (s : State) (p : ℕ) → lineage_keeps s p ≡ true → Lineage s p
lineage_facts s p h =
    cases (eqb (s.caps p).parent 0)
    (λ (t : eqb (s.caps p).parent 0 ≡ true). no_parent (eqb-true (s.caps p).parent 0 t) (rw t at h))
    (λ (f : eqb (s.caps p).parent 0 ≡ false).
    let some : (s.caps p).parent ≡ 0 → ⊥ = eqb-false (s.caps p).parent 0 f in
    child ((s.caps p).parent - 1) (child_facts s p ((s.caps p).parent - 1) (omega arith) (rw f at h)))

lineage_test : (s : State) (p : ℕ) → Lineage s p → lineage_keeps s p ≡ true
lineage_test s p (no_parent e t) = rw (eq-eqb (s.caps p).parent 0 e) t
lineage_test s p (child q c) =
    let back : (s.caps p).parent - 1 ≡ q = omega (arith, c.linked) in
    rw (ne_eqb (s.caps p).parent 0 (omega (arith, c.linked)), back) (child_test s p q c)

pub live_facts : (s : State) (p : ℕ) → live_place s p ≡ true → live (s.caps p) ≡ true → LivePlace s p
unfolding live_place
live_facts s p h l =
    let parts = each_of_four (eqb (domain_of p) hypervisor || has_pd s (domain_of p)) (is_resource s (space_of p) (s.caps p).resource)
    (leb (s.caps p).permissions (greatest (space_of p) (kind_of s (s.caps p).resource))) (lineage_keeps s p) (rw l at h) in
    record {
      home = parts.0;
      names = parts.1;
      bounded = leb-true (s.caps p).permissions (greatest (space_of p) (kind_of s (s.caps p).resource)) parts.2;
      lineage = lineage_facts s p parts.3;
    }

-- what a place names as its parent is its parent: a null place names none
named_parent : (s : State) (p q : ℕ) → Lineage s p → (s.caps p).parent ≡ suc q → ChildOf s p q
named_parent s p q (no_parent e t) linked = absurd (omega arith)
named_parent s p q (child r c) linked = let same : r ≡ q = omega (arith, c.linked) in rw same at c

pub parent_child : (s : State) → Sound s → (p q : ℕ) → p < places → (s.caps p).parent ≡ suc q → ChildOf s p q
parent_child s k p q l linked =
    cases (live (s.caps p)) (λ (t : live (s.caps p) ≡ true). named_parent s p q (live_facts s p (k.lives p l) t).lineage linked)
    (λ (f : live (s.caps p) ≡ false). absurd (omega (arith, ap (λ (cap : Cap). cap.parent) (null_cap s p (k.nulls p l) f))))

pub live_test : (s : State) (p : ℕ) → (live (s.caps p) ≡ true → LivePlace s p) → live_place s p ≡ true
unfolding live_place
live_test s p f =
    cases (live (s.caps p))
    (λ (l : live (s.caps p) ≡ true).
    let k : LivePlace s p = f l in
    rw (l, k.home, k.names, le-leb (s.caps p).permissions (greatest (space_of p) (kind_of s (s.caps p).resource)) k.bounded) (lineage_test s p k.lineage))
    (λ (d : live (s.caps p) ≡ false). rw d)

-- a PD's domain is one more than the number of PDs below it, so none has domain 0
pub pd_numbered : (s : State) (r : ℕ) → pd_rule s r ≡ true → eqb (kind_of s r) PD ≡ true → s.objects r domain_word ≡ pds_below s r + 1
unfolding pd_rule
pd_numbered s r h t =
    eqb-true (s.objects r domain_word) (pds_below s r + 1)
    (and_left (eqb (s.objects r domain_word) (pds_below s r + 1)) (ltb (s.objects r domain_word) domains) (rw t at h))

pub home_not_hypervisor : (s : State) (domain : ℕ) → Sound s → has_pd s domain ≡ true → domain ≡ hypervisor → ⊥
unfolding has_pd
home_not_hypervisor s domain k h e =
    let (r, small, t) = any_below_at records (λ r. eqb (kind_of s r) PD && eqb (s.objects r domain_word) domain) h in
    let own : s.objects r domain_word ≡ domain =
    eqb-true (s.objects r domain_word) domain (and_right (eqb (kind_of s r) PD) (eqb (s.objects r domain_word) domain) t) in
    omega (arith, pd_numbered s r (k.pds r small) (and_left (eqb (kind_of s r) PD) (eqb (s.objects r domain_word) domain) t))

-- no kind is above the last
pub kind_small : (s : State) (r : ℕ) → unnamed_rule s r ≡ true → kind_of s r ≤ SM
unfolding unnamed_rule
kind_small s r h =
    leb-true (kind_of s r) SM
    (and_left (leb (kind_of s r) SM)
    (if eqb (kind_of s r) free then true else all_below record_words (λ k. leb k (named_words (kind_of s r)) || eqb (s.objects r k) 0)) h)
