-- What delegations leave of the place table.
use Rattle.std.specs.Prelude.{ℕ, suc, ◌<◌, ◌≡◌, Bool, true, List}
use Rattle.words.specs.Sizes.{places, space_of}
use Rattle.interface.specs.Places.{Cap, live, cap_at, cap_table, places_in}
use Rattle.interface.specs.Effects.{Effect, run, filled}
use Rattle.places.specs.Table.{Given}
use Rattle.descent.specs.Walks.{Linked}

-- links that delegations keep: a walk can follow them, and each parent is live
pub record LiveLinks (caps : ℕ → Cap) : Type 0 where
  pub linked : Linked caps
  pub parent_live : (p q : ℕ) → p < places → (caps p).parent ≡ suc q → live (caps q) ≡ true

-- a delegation of one place to another of its space
pub record GivenAt (before after : List ℕ) (destination source mask : ℕ) (filled : Bool) : Type 0 where
  pub is_place : destination < places
  pub from_place : source < places
  pub same_space : space_of source ≡ space_of destination
  pub given : Given before after destination source mask filled

-- delegations in turn: the table they leave, what it shows, how many places they filled, and that live links stay so
pub record Taken (before after : List ℕ) (effects : List Effect) (count : ℕ) : Type 0 where
  pub leaves : after ≡ cap_table (run effects (places_in before)).caps
  pub shows : places_in after ≡ run effects (places_in before)
  pub fills : count ≡ filled effects (places_in before)
  pub links_stay : LiveLinks (cap_at before) → LiveLinks (cap_at after)
