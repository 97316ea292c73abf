-- What the functions that repair tables cite beside the definition of repair.
use Rattle.std.specs.Prelude.{ℕ, ◌≡◌, Bool, false, not, ◌&&◌, List, if◌then◌else◌}
use Rattle.interface.specs.Places.{State, live, nothing, place_table, cap_at, cap_table, view}
use Rattle.interface.specs.Boot.{boot}
use Rattle.interface.specs.Damage.{same_cap, live_place, shallow}
use Rattle.marks.specs.PlaceBits.{bit_at}
use Rattle.descent.specs.Walks.{Marked}
use Rattle.tree.specs.Changing.{changed_where}
use Rattle.repair_rules.specs.Repair.{whole, stays, repaired_state, lost}

-- whether a place keeps the rules that a chain is held against, 11 and 12
abbrev pub link_keeps : State → ℕ → Bool
link_keeps s p = live_place s p && shallow s p

-- marks of no place
pub record Unmarked (marks : List ℕ) : Type 0 where
  pub none : (number : ℕ) → bit_at marks number ≡ false

-- what marks tell that are those of the places which keep the rules 11 and 12, whatever the records: whether a chain is whole, whether a place goes, and all that go, with the number of
-- live ones among them
pub record ToldWhole (table links : List ℕ) (place : ℕ) (answer : Bool) : Type 0 where
  pub whole_told : (objects : List ℕ) → Marked (link_keeps (view table objects)) links → answer ≡ whole (view table objects) place

pub record ToldLost (table links : List ℕ) (place : ℕ) (answer : Bool) : Type 0 where
  pub lost_told : (objects : List ℕ) → Marked (link_keeps (view table objects)) links → answer ≡ not (stays (view table objects) place)

pub record LostMarked (table links marks : List ℕ) (count : ℕ) : Type 0 where
  pub marked : (objects : List ℕ) → Marked (link_keeps (view table objects)) links → Marked (λ p. not (stays (view table objects) p)) marks
  pub counted : (objects : List ℕ) → Marked (link_keeps (view table objects)) links → count ≡ lost (view table objects)

-- a table whose places that go are emptied, by marks of them, with the number of live ones among them
pub record EmptiedLost (table links after : List ℕ) (count : ℕ) : Type 0 where
  pub marks : List ℕ
  pub lost_marked : LostMarked table links marks count
  pub emptied : after ≡ cap_table (changed_where (bit_at marks) (λ cap. nothing) (cap_at table))

-- a place table that is repaired, and how many capabilities that took away
pub record Mended (before objects after : List ℕ) (count : ℕ) : Type 0 where
  pub leaves : after ≡ place_table (repaired_state (view before objects))
  pub counts : count ≡ lost (view before objects)

-- whether a place of domain 0 is as at boot, or was null both then and now
unfoldable pub place_mends : List ℕ → ℕ → Bool
place_mends table p = if live (cap_at table p) then same_cap (cap_at table p) (boot.caps p) else not (live (boot.caps p))
