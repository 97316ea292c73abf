-- The census of a place: its strict descendants.
use Rattle.std.specs.Prelude.{ℕ, List, ◌++◌, leb, ltb, length, drop, if◌then◌else◌, Ok, Err}
use Rattle.words.specs.Sizes.{places}
use Rattle.reply.specs.Replies.{Reply}
use Rattle.reply.specs.declared.Refusal.TheVariants.{Damaged, BadPar, BadCap, Short}
use Rattle.interface.specs.Basics.{gather}
use Rattle.interface.specs.Places.{Cap, State, Tables, live, shown}
use Rattle.interface.specs.Damage.{sound}
use Rattle.interface.specs.Effects.{below}

-- the strict descendants of a place, rising by place number
unfoldable pub descendants : (ℕ → Cap) → ℕ → List ℕ
descendants caps place = gather places (below caps place 1)

-- the reply of a census and the list that was lent to it
pub record CensusResult : Type 0 where
  pub reply : Reply
  pub list : List ℕ

-- a census on a sound state: a place number that is too large, a null place, and a list that is too short are refused, and a refusal leaves the list; otherwise the
-- descendants stand first in it, and the words past their count stay
unfoldable pub counted : State → ℕ → List ℕ → CensusResult
counted s place list =
    let found = descendants s.caps place in
    if leb places place then record { reply = Err BadPar; list = list } else
    if live (s.caps place) then
    (if ltb (length list) (length found) then record { reply = Err (Short (length found)); list = list }
    else record { reply = Ok (length found); list = found ++ drop (length found) list })
    else record { reply = Err BadCap; list = list }

-- a census on tables of any lengths: damage is tested first
unfoldable pub census_of : Tables → ℕ → List ℕ → CensusResult
census_of tables place list = if sound tables then counted (shown tables) place list else record { reply = Err Damaged; list = list }
