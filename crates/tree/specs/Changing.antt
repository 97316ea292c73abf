-- Changing some of the places of a table.
use Rattle.std.specs.Prelude.{ℕ, Bool, if◌then◌else◌}
use Rattle.interface.specs.Places.{Cap}

-- some capabilities, changed where a test says so
unfoldable pub changed_where : (ℕ → Bool) → (Cap → Cap) → (ℕ → Cap) → (ℕ → Cap)
changed_where test change caps place = if test place then change (caps place) else caps place
