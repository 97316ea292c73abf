-- What calls and the census make of the tables of a state is what they make of the state.
use Rattle.std.specs.Prelude.{Ok}
use Prim.Native.Nat.{ℕ, ◌≤◌, ◌<◌}
use mathlib.Core.Path.{◌≡◌, ap}
use mathlib.Core.Bool.{true}
use mathlib.Core.List.{List, ◌++◌}
use lib.ListN.{length, drop}
use borrow.Author.Tests.{le-ltb, lt-leb}
use Rattle.words.specs.Sizes.{places}
use Rattle.interface.specs.Places.{State, live, tables_of}
use Rattle.interface.specs.Damage.{sound_state}
use Rattle.interface.specs.Verdicts.{Call}
use Rattle.interface.specs.Rules.{rules, after, judged, hypercall_tables}
use Rattle.interface.specs.Census.{descendants, counted, census_of}
use Rattle.interface.proofs.Tables.TableLaws.{Ends, tables_sized, shown_tables, state_sound}

module _ (state : State) (ends : Ends state) where
  pub judged_shown : (c : Call) → judged (tables_of state) c ≡ rules state c
  unfolding judged
  judged_shown c = rw (tables_sized state) (ap (λ (s : State). rules s c) (shown_tables state ends))

  pub tables_shown : (c : Call) → hypercall_tables (tables_of state) c ≡ tables_of (after state c)
  unfolding hypercall_tables
  tables_shown c = rw (tables_sized state) (ap (λ (s : State). tables_of (after s c)) (shown_tables state ends))

  pub census_shown : sound_state state ≡ true → (place : ℕ) (list : List ℕ) → census_of (tables_of state) place list ≡ counted state place list
  unfolding census_of
  census_shown sound place list =
      rw (state_sound state ends sound) (ap (λ (s : State). counted s place list) (shown_tables state ends))

-- a census of a live place with room for its descendants counts and lists them
pub counted_found : (s : State) (place : ℕ) (found list : List ℕ) → place < places → live (s.caps place) ≡ true → descendants s.caps place ≡ found →
    length found ≤ length list → counted s place list ≡ record { reply = Ok (length found); list = found ++ drop (length found) list }
unfolding counted
counted_found s place found list small alive is_found enough =
    rw (lt-leb places place small, alive, is_found, le-ltb (length list) (length found) enough)
