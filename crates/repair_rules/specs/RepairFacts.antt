-- What follows from the definition of repair: sections 17.4 to 17.6 of the manual, sentence by sentence.
use Rattle.std.specs.Prelude.{ℕ, zero, suc, ◌+◌, ◌-◌, ◌≤◌, ◌<◌, ◌≡◌, ◌↔◌, ◌⊎◌, true, false, length, Ok, Err}
use Rattle.reply.specs.declared.Refusal.TheVariants.{Damaged}
use Rattle.interface.specs.Basics.{count_below}
use Rattle.interface.specs.Places.{State, Tables, live, nothing, cap_at, shown}
use Rattle.interface.specs.Boot.{boot}
use Rattle.interface.specs.Damage.{sound}
use Rattle.interface.specs.DamageReport.{record_keeps, place_keeps}
use Rattle.repair_rules.specs.Repair.{whole_within, whole, stays, repaired, lost, repairing}

-- the place that so many steps from a place to the parent lead to
unfoldable pub upward : State → ℕ → ℕ → ℕ
upward s zero p = p
upward s (suc steps) p = upward s steps ((s.caps p).parent - 1)

-- a whole chain: after so many steps it comes to a place without a parent, and to none before; and each of its places keeps the rules 11 and 12
pub record WholeChain (s : State) (p : ℕ) : Type 0 where
  pub steps : ℕ
  pub ends : (s.caps (upward s steps p)).parent ≡ 0
  pub goes_on : (k : ℕ) → k < steps → (s.caps (upward s k p)).parent ≡ 0 → ⊥
  pub keeps_11 : (k : ℕ) → k ≤ steps → place_keeps s 11 (upward s k p) ≡ true
  pub keeps_12 : (k : ℕ) → k ≤ steps → place_keeps s 12 (upward s k p) ≡ true

-- Chains are judged exactly: that of a live place is found whole exactly where it is, and has no more than 64 places, so that following it further finds nothing else; and one that
-- never ends is not whole, however far it is followed
pub record ChainsExactly : Type 0 where
  pub found : (s : State) (p : ℕ) → live (s.caps p) ≡ true → (whole s p ≡ true) ↔ WholeChain s p
  pub few : (s : State) (p : ℕ) → live (s.caps p) ≡ true → (chain : WholeChain s p) → chain.steps < 64
  pub enough : (s : State) (p more : ℕ) → live (s.caps p) ≡ true → whole_within (64 + more) s p ≡ whole s p
  pub endless : (s : State) (p : ℕ) → ((steps : ℕ) → (s.caps (upward s steps p)).parent ≡ 0 → ⊥) → (limit : ℕ) → whole_within limit s p ≡ false

-- tables of the right lengths
pub record Long (tables : Tables) : Type 0 where
  pub places_long : length tables.places ≡ 12288
  pub objects_long : length tables.objects ≡ 320

-- A place stays exactly where it is live and lies in domain 0 (below place 384) or has a whole chain
pub record StaysExactly : Type 0 where
  pub staying : (s : State) (p : ℕ) → (stays s p ≡ true) ↔ (((s.caps p).permissions ≡ 0 → ⊥) × ((p < 384) ⊎ WholeChain s p))

-- Repair empties exactly the places that the manual says: null ones, and live ones outside domain 0 (from place 384 on) whose chains are not whole. All others stay, and so do the
-- objects, the lengths, and tables of wrong lengths
pub record EmptiesExactly : Type 0 where
  pub null_emptied : (t : Tables) → Long t → (p : ℕ) → p < 3072 → (cap_at t.places p).permissions ≡ 0 → cap_at (repaired t).places p ≡ nothing
  pub broken_emptied : (t : Tables) → Long t → (p : ℕ) → p < 3072 → 384 ≤ p → (WholeChain (shown t) p → ⊥) → cap_at (repaired t).places p ≡ nothing
  pub whole_stays : (t : Tables) → Long t → (p : ℕ) → p < 3072 → ((cap_at t.places p).permissions ≡ 0 → ⊥) → WholeChain (shown t) p →
      cap_at (repaired t).places p ≡ cap_at t.places p
  pub hypervisor_stays : (t : Tables) → Long t → (p : ℕ) → p < 384 → ((cap_at t.places p).permissions ≡ 0 → ⊥) → cap_at (repaired t).places p ≡ cap_at t.places p
  pub objects_stay : (t : Tables) → (repaired t).objects ≡ t.objects
  pub as_long : (t : Tables) → length (repaired t).places ≡ length t.places
  pub others_stay : (t : Tables) → (Long t → ⊥) → repaired t ≡ t

-- every record keeps every rule, and each place of domain 0 does
pub record RecordsKeep (s : State) : Type 0 where
  pub records_keep : (rule r : ℕ) → r < 64 → record_keeps s rule r ≡ true

pub record HypervisorKeeps (s : State) : Type 0 where
  pub places_keep : (rule p : ℕ) → p < 384 → place_keeps s rule p ≡ true

-- each place of domain 0 is as at boot, or was null both then and now
pub record HypervisorMends (s : State) : Type 0 where
  pub as_boot : (p : ℕ) → p < 384 → (s.caps p ≡ boot.caps p) ⊎ (((s.caps p).permissions ≡ 0) × ((boot.caps p).permissions ≡ 0))

-- The repaired tables are sound if the records and domain 0 were, and exactly if the lengths are right, the records keep their rules and domain 0 needs no more than null places emptied
pub record SoundAfter : Type 0 where
  pub if_records_were : (t : Tables) → Long t → RecordsKeep (shown t) → HypervisorKeeps (shown t) → sound (repaired t) ≡ true
  pub exactly : (t : Tables) → (sound (repaired t) ≡ true) ↔ (Long t × RecordsKeep (shown t) × HypervisorMends (shown t))

-- Sound tables stay as they are, and repairing once more changes nothing
pub record RepairsOnce : Type 0 where
  pub sound_stays : (t : Tables) → sound t ≡ true → repaired t ≡ t
  pub once : (t : Tables) → repaired (repaired t) ≡ repaired t

-- The operation: it is refused exactly where the repaired tables are not sound, and then leaves the tables; otherwise it leaves the repaired ones, and counts the places that were live
-- and are not any more
pub record RepairAnswers : Type 0 where
  pub refused : (t : Tables) → sound (repaired t) ≡ false → repairing t ≡ record { reply = Err Damaged; tables = t }
  pub mends : (t : Tables) → sound (repaired t) ≡ true → repairing t ≡ record { reply = Ok (lost (shown t)); tables = repaired t }
  pub counts : (t : Tables) → Long t → lost (shown t) + count_below 3072 (λ p. live (cap_at (repaired t).places p)) ≡ count_below 3072 (λ p. live (cap_at t.places p))
