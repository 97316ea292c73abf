-- What a step has to be for a sound state to stay sound, step by step and for steps in turn.
use Prim.Native.Nat.{ℕ, ◌+◌, ◌<◌, ◌≤◌}
use mathlib.Core.Path.{◌≡◌}
use mathlib.Core.Bool.{true, false}
use mathlib.Core.List.{List, [], ◌∷◌}
use lib.ListN.{length}
use Rattle.words.specs.Sizes.{object, domain_of, space_of, places, records, record_words}
use Rattle.interface.specs.Basics.{word}
use Rattle.interface.specs.Places.{State, live, free, PD, kind_word, kind_of}
use Rattle.interface.specs.Boot.{hypervisor}
use Rattle.interface.specs.Damage.{has_pd, fixed_record, unnamed_rule, pd_rule, ec_rule, sc_rule, pt_rule}
use Rattle.interface.specs.Effects.{Effect, give, make, hold, cut, store, among, act}
use Rattle.interface.specs.Creations.{free_record}

-- a delegation goes from a place to one of the same space, in a domain with a PD
pub record GiveFits (s : State) (destination source : ℕ) : Type 0 where
  pub destination_small : destination < places
  pub source_small : source < places
  pub same_space : space_of destination ≡ space_of source
  pub at_home : has_pd s (domain_of destination) ≡ true

-- a new object takes the lowest free record, and keeps the rules of its kind there
pub record MakeFits (s : State) (number : ℕ) (words : List ℕ) : Type 0 where
  pub lowest_free : number ≡ free_record s
  pub is_record : number < records
  pub used : word words kind_word ≡ free → ⊥
  pub short : length words ≤ record_words
  pub keeps_unnamed : unnamed_rule (act (make number words) s) number ≡ true
  pub keeps_pd : pd_rule (act (make number words) s) number ≡ true
  pub keeps_ec : ec_rule (act (make number words) s) number ≡ true
  pub keeps_sc : sc_rule (act (make number words) s) number ≡ true
  pub keeps_pt : pt_rule (act (make number words) s) number ≡ true

-- a capability without a parent goes to a null object place of a domain with a PD, and names a used record
pub record HoldFits (s : State) (place number : ℕ) : Type 0 where
  pub place_small : place < places
  pub is_object : space_of place ≡ object
  pub at_home : has_pd s (domain_of place) ≡ true
  pub null : live (s.caps place) ≡ false
  pub is_record : number < records
  pub used : kind_of s number ≡ free → ⊥

-- revocation's range lies outside domain 0
pub record CutFits (first size : ℕ) : Type 0 where
  pub outside : (place : ℕ) → among first size place ≡ true → domain_of place ≡ hypervisor → ⊥

-- words are stored in a used record that is no PD's, after its kind and inside it, and it keeps the rules of its kind with them
pub record StoreFits (s : State) (number from : ℕ) (words : List ℕ) : Type 0 where
  pub is_record : number < records
  pub used : kind_of s number ≡ free → ⊥
  pub no_pd : kind_of s number ≡ PD → ⊥
  pub past_kind : kind_word < from
  pub ends_inside : from + length words ≤ record_words
  pub keeps_fixed : fixed_record (act (store number from words) s) number ≡ true
  pub keeps_unnamed : unnamed_rule (act (store number from words) s) number ≡ true
  pub keeps_ec : ec_rule (act (store number from words) s) number ≡ true
  pub keeps_sc : sc_rule (act (store number from words) s) number ≡ true
  pub keeps_pt : pt_rule (act (store number from words) s) number ≡ true

-- a step fits a state
abbrev pub Fits : Effect → State → Type 0
Fits (give destination source mask) s = GiveFits s destination source
Fits (make number words) s = MakeFits s number words
Fits (hold place number) s = HoldFits s place number
Fits (cut mask first size self) s = CutFits first size
Fits (store number from words) s = StoreFits s number from words

-- each of some steps fits the state that those before it leave
abbrev pub FitInTurn : List Effect → State → Type 0
FitInTurn [] s = Unit {0}
FitInTurn (effect ∷ effects) s = Fits effect s × FitInTurn effects (act effect s)
