-- Stripping some of the places of a table.
use Rattle.std.specs.Prelude.{ℕ, Bool, if◌then◌else◌}
use Rattle.interface.specs.Places.{Cap}
use Rattle.interface.specs.Effects.{stripped}

-- a mask's permissions removed where a test says so
unfoldable pub stripped_where : (ℕ → Bool) → ℕ → (ℕ → Cap) → (ℕ → Cap)
stripped_where test mask caps place = if test place then stripped mask (caps place) else caps place
