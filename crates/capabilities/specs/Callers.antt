-- What a call's function may ask of its tables and caller: the tables are sound, and the caller is an EC.
use Rattle.std.specs.Prelude.{ℕ, ◌≡◌, true, List}
use Rattle.interface.specs.Places.{tables, view}
use Rattle.interface.specs.Damage.{sound, is_ec}

-- sound tables, and a caller that is an EC
pub record Called (places objects : List ℕ) (caller : ℕ) : Type 0 where
  pub is_sound : sound (tables places objects) ≡ true
  pub is_ec_lem : is_ec (view places objects) caller ≡ true
