-- One record of a journal played, with its line.
use Rattle.std.specs.Prelude.{ℕ, ◌≡◌, true, List, [], ◌∷◌}
use Rattle.interface.specs.Places.{Tables}
use Rattle.interface.specs.Damage.{sound}
use Rattle.interface.specs.Verdicts.{Call}
use Rattle.interface.specs.History.{hypercalls}
use Rattle.interface.specs.Demand.{tables_after_all}
use Rattle.interface.specs.Journal.{spelled_lines, lines_from}
use Rattle.texts.specs.Texts.{Wrote}

-- a record's hypercall played on some tables, with its line, of an index, written into a buffer at a place: the tables are those after it, and still sound, and the text written
-- is that of the line
pub record PlaysRecord (c : Call) (before : Tables) (index : ℕ) (out : List ℕ) (at : ℕ) (after : Tables) (out_after : List ℕ) (end : ℕ) : Type 0 where
  pub leaves : after ≡ tables_after_all before (hypercalls c ∷ [])
  pub still_sound : sound after ≡ true
  pub writes : Wrote out at (spelled_lines (lines_from before index (c ∷ []))) out_after end
