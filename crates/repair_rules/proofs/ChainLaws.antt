-- Chains: what one that is whole within some places tells, that following it further changes nothing, and that the depth of its first place says how long it is.
use Prim.Native.Nat.{ℕ, zero, suc, ◌+◌, ◌-◌, ◌≤◌, ◌<◌}
use mathlib.Core.Path.{◌≡◌, refl}
use mathlib.Core.Logic.{◌↔◌}
use mathlib.Core.Bool.{true, false, ◌&&◌, false≢true}
use native.Mathlib.Decide.{le_ind}
use native.Mathlib.Omega.{arith}
use lib.Dec.{eqb}
use borrow.Author.Tests.{eqb-true, eqb-false, eq-eqb, ne_eqb}
use Rattle.words.specs.Sizes.{greatest_depth}
use Rattle.std.specs.Prelude.{if◌then◌else◌}
use Rattle.interface.specs.Places.{State, live}
use Rattle.interface.specs.Damage.{live_place, shallow}
use Rattle.interface.specs.DamageReport.{place_keeps}
use Rattle.interface.proofs.Basics.BoolLaws.{cases, and_left, and_right, same_test}
use Rattle.interface.proofs.Sound.PlaceFacts.{depth_small, ChildOf, Lineage, no_parent, child, live_facts}
use Rattle.repair_rules.specs.Repair.{whole_within, whole}
use Rattle.repair_rules.specs.RepairFacts.{upward, WholeChain, ChainsExactly}

module _ (s : State) where
  -- the place that a parent word names
  abbrev pub above : ℕ → ℕ
  above p = (s.caps p).parent - 1

  -- what a chain that is whole within some places tells of its first place, and of the rest
  within_parts : (more p : ℕ) → whole_within (suc more) s p ≡ true →
      (live_place s p ≡ true) × (shallow s p ≡ true) × ((if eqb (s.caps p).parent 0 then true else whole_within more s (above p)) ≡ true)
  unfolding whole_within
  within_parts more p h =
      let rest = if eqb (s.caps p).parent 0 then true else whole_within more s (above p) in
      let two = and_left (live_place s p && shallow s p) rest h in
      (and_left (live_place s p) (shallow s p) two, and_right (live_place s p) (shallow s p) two, and_right (live_place s p && shallow s p) rest h)

  pub within_live : (more p : ℕ) → whole_within (suc more) s p ≡ true → live_place s p ≡ true
  within_live more p h = (within_parts more p h).0

  pub within_shallow : (more p : ℕ) → whole_within (suc more) s p ≡ true → shallow s p ≡ true
  within_shallow more p h = (within_parts more p h).1

  pub within_rest : (more p : ℕ) → whole_within (suc more) s p ≡ true → ((s.caps p).parent ≡ 0 → ⊥) → whole_within more s (above p) ≡ true
  within_rest more p h some = rw (ne_eqb (s.caps p).parent 0 some) at (within_parts more p h).2

  pub within_none : (p : ℕ) → whole_within 0 s p ≡ true → ⊥
  unfolding whole_within
  within_none p h = false≢true h

  -- and back: a chain ends, or goes on
  pub within_end : (more p : ℕ) → live_place s p ≡ true → shallow s p ≡ true → (s.caps p).parent ≡ 0 → whole_within (suc more) s p ≡ true
  unfolding whole_within
  within_end more p l f e = rw (l, f, eq-eqb (s.caps p).parent 0 e)

  pub within_next : (more p : ℕ) → live_place s p ≡ true → shallow s p ≡ true → whole_within more s (above p) ≡ true → whole_within (suc more) s p ≡ true
  unfolding whole_within
  within_next more p l f rest =
      cases (eqb (s.caps p).parent 0) (λ (t : eqb (s.caps p).parent 0 ≡ true). rw (l, f, t))
      (λ (n : eqb (s.caps p).parent 0 ≡ false). rw (l, f, n) rest)

  -- a chain that is whole within some places is within more
  within_one_more : (n p : ℕ) → whole_within n s p ≡ true → whole_within (suc n) s p ≡ true
  within_one_more zero p h = absurd (within_none p h)
  within_one_more (suc n) p h =
      cases (eqb (s.caps p).parent 0)
      (λ (t : eqb (s.caps p).parent 0 ≡ true). within_end (suc n) p (within_live n p h) (within_shallow n p h) (eqb-true (s.caps p).parent 0 t))
      (λ (f : eqb (s.caps p).parent 0 ≡ false).
      within_next (suc n) p (within_live n p h) (within_shallow n p h) (within_one_more n (above p) (within_rest n p h (eqb-false (s.caps p).parent 0 f))))

  pub within_more : (n m p : ℕ) → n ≤ m → whole_within n s p ≡ true → whole_within m s p ≡ true
  within_more n m p l h = le_ind (λ (k : ℕ). whole_within k s p ≡ true) h (λ k b ih. within_one_more k p ih) m l

  -- what holds of a place, and of the places so many steps from its parent, holds of those one step more from it
  at_first : (P : ℕ → Type 0) (p : ℕ) → P p → (k : ℕ) → k ≤ 0 → P (upward s k p)
  unfolding upward
  at_first P p h zero l = h
  at_first P p h (suc k) l = absurd (omega arith)

  at_more : (P : ℕ → Type 0) (p steps : ℕ) → P p → ((k : ℕ) → k < steps → P (upward s k (above p))) → (k : ℕ) → k < suc steps → P (upward s k p)
  unfolding upward
  at_more P p steps h f zero l = h
  at_more P p steps h f (suc k) l = f k (omega arith)

  -- the rules by their numbers
  pub by_11 : (p : ℕ) → place_keeps s 11 p ≡ live_place s p
  unfolding place_keeps
  by_11 p = refl

  pub by_12 : (p : ℕ) → place_keeps s 12 p ≡ shallow s p
  unfolding place_keeps
  by_12 p = refl

  -- a chain that is found whole is whole
  pub chain_of : (n p : ℕ) → whole_within n s p ≡ true → WholeChain s p
  unfolding upward place_keeps
  chain_of zero p h = absurd (within_none p h)
  chain_of (suc n) p h =
      let lives = within_live n p h in
      let flat = within_shallow n p h in
      cases (eqb (s.caps p).parent 0)
      (λ (t : eqb (s.caps p).parent 0 ≡ true).
      record {
        steps = 0;
        ends = eqb-true (s.caps p).parent 0 t;
        goes_on = λ k l. absurd (omega arith);
        keeps_11 = at_first (λ q. live_place s q ≡ true) p lives;
        keeps_12 = at_first (λ q. shallow s q ≡ true) p flat;
      })
      (λ (f : eqb (s.caps p).parent 0 ≡ false).
      let some = eqb-false (s.caps p).parent 0 f in
      let c = chain_of n (above p) (within_rest n p h some) in
      record {
        steps = suc c.steps;
        ends = c.ends;
        goes_on = at_more (λ q. (s.caps q).parent ≡ 0 → ⊥) p c.steps some c.goes_on;
        keeps_11 = λ k l. at_more (λ q. live_place s q ≡ true) p (suc c.steps) lives (λ i m. c.keeps_11 i (omega arith)) k (omega arith);
        keeps_12 = λ k l. at_more (λ q. shallow s q ≡ true) p (suc c.steps) flat (λ i m. c.keeps_12 i (omega arith)) k (omega arith);
      })

  -- a whole chain is found so within more places than it has steps
  chain_within : (steps limit p : ℕ) → steps < limit → (s.caps (upward s steps p)).parent ≡ 0 → ((k : ℕ) → k ≤ steps → live_place s (upward s k p) ≡ true) →
      ((k : ℕ) → k ≤ steps → shallow s (upward s k p) ≡ true) → whole_within limit s p ≡ true
  unfolding upward
  chain_within steps zero p l e a b = absurd (omega arith)
  chain_within zero (suc more) p l e a b = within_end more p (a 0 (omega arith)) (b 0 (omega arith)) e
  chain_within (suc steps) (suc more) p l e a b =
      within_next more p (a 0 (omega arith)) (b 0 (omega arith))
      (chain_within steps more (above p) (omega arith) e (λ k m. a (suc k) (omega arith)) (λ k m. b (suc k) (omega arith)))

  -- the depth of a live place is the number of steps in its chain
  none_deep : (p : ℕ) → Lineage s p → (s.caps p).parent ≡ 0 → (s.caps p).depth ≡ 0
  none_deep p (no_parent e t) z = eqb-true (s.caps p).depth 0 (and_left (eqb (s.caps p).depth 0) _ t)
  none_deep p (child q c) z = absurd (omega (arith, c.linked))

  -- a parent word that is not 0 names the parent
  pub parent_above : (p : ℕ) → Lineage s p → ((s.caps p).parent ≡ 0 → ⊥) → ChildOf s p (above p)
  parent_above p (no_parent e t) some = absurd (some e)
  parent_above p (child q c) some = let same : q ≡ above p = omega (arith, c.linked) in rw same at c

  chain_depth : (steps p : ℕ) → live (s.caps p) ≡ true → (s.caps (upward s steps p)).parent ≡ 0 → ((k : ℕ) → k < steps → (s.caps (upward s k p)).parent ≡ 0 → ⊥) →
      ((k : ℕ) → k ≤ steps → live_place s (upward s k p) ≡ true) → (s.caps p).depth ≡ steps
  unfolding upward
  chain_depth zero p alive e on a = none_deep p (live_facts s p (a 0 (omega arith)) alive).lineage e
  chain_depth (suc steps) p alive e on a =
      let c = parent_above p (live_facts s p (a 0 (omega arith)) alive).lineage (on 0 (omega arith)) in
      let deep = chain_depth steps (above p) c.alive e (λ k l. on (suc k) (omega arith)) (λ k l. a (suc k) (omega arith)) in
      omega (arith, c.deeper)

  module _ (p : ℕ) (alive : live (s.caps p) ≡ true) where
    pub chain_few : (c : WholeChain s p) → c.steps < greatest_depth + 1
    unfolding upward place_keeps
    chain_few c =
        let deep = chain_depth c.steps p alive c.ends c.goes_on c.keeps_11 in
        let flat = depth_small s p (c.keeps_12 0 (omega arith)) in
        omega arith

    pub chain_found : (limit : ℕ) → greatest_depth + 1 ≤ limit → WholeChain s p → whole_within limit s p ≡ true
    unfolding place_keeps
    chain_found limit l c = chain_within c.steps limit p (omega (arith, chain_few c)) c.ends c.keeps_11 c.keeps_12

    pub found_exactly : (whole s p ≡ true) ↔ WholeChain s p
    unfolding whole
    found_exactly = (chain_of (greatest_depth + 1) p, chain_found (greatest_depth + 1) (omega arith))

    pub no_further : (more : ℕ) → whole_within (greatest_depth + 1 + more) s p ≡ whole s p
    unfolding whole
    no_further more =
        same_test (whole_within (greatest_depth + 1 + more) s p) (whole_within (greatest_depth + 1) s p)
        (λ h. chain_found (greatest_depth + 1) (omega arith) (chain_of (greatest_depth + 1 + more) p h))
        (λ h. chain_found (greatest_depth + 1 + more) (omega arith) (chain_of (greatest_depth + 1) p h))

  never_whole : (limit p : ℕ) → ((steps : ℕ) → (s.caps (upward s steps p)).parent ≡ 0 → ⊥) → whole_within limit s p ≡ false
  unfolding whole_within upward
  never_whole zero p never = refl
  never_whole (suc limit) p never =
      let rest : whole_within limit s (above p) ≡ false = never_whole limit (above p) (λ steps. never (suc steps)) in
      rw (ne_eqb (s.caps p).parent 0 (never 0), rest)
      (cases (live_place s p && shallow s p) (λ (t : (live_place s p && shallow s p) ≡ true). rw t) (λ (f : (live_place s p && shallow s p) ≡ false). rw f))

pub chains_exactly : ChainsExactly
chains_exactly =
    record {
      found = found_exactly;
      few = chain_few;
      enough = λ s p more alive. no_further s p alive more;
      endless = λ s p never limit. never_whole s limit p never;
    }
