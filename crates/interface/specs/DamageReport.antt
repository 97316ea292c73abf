-- The damage report: it and the test of soundness agree, and it names the first rule that is broken, and the lowest record or else the lowest place that breaks it.
use Rattle.std.specs.Prelude.{ℕ, ◌<◌, ◌≡◌, ◌↔◌, Bool, true, false, [], ◌∷◌, map, eqb, length, if◌then◌else◌, Some, None}
use Rattle.reply.specs.declared.Fault.TheVariants.{Lengths, AtRecord, AtPlace}
use Rattle.interface.specs.Places.{State, Tables, shown}
use Rattle.interface.specs.Damage.{Rule, fixed_record, fixed_place, interrupt_rule, unnamed_rule, used_first, pd_rule, ec_rule, sc_rule, pt_rule, null_place, live_place, shallow, rules_of_damage, sound, fault}

-- whether a record keeps the rule of a number: rules 2 to 9 speak of records
unfoldable pub record_keeps : State → ℕ → ℕ → Bool
record_keeps s number r =
    if eqb number 2 then fixed_record s r else
    if eqb number 3 then interrupt_rule s r else
    if eqb number 4 then unnamed_rule s r else
    if eqb number 5 then used_first s r else
    if eqb number 6 then pd_rule s r else
    if eqb number 7 then ec_rule s r else
    if eqb number 8 then sc_rule s r else
    if eqb number 9 then pt_rule s r else
    true

-- whether a place keeps the rule of a number: rules 2 and 10 to 12 speak of places
unfoldable pub place_keeps : State → ℕ → ℕ → Bool
place_keeps s number p =
    if eqb number 2 then fixed_place s p else
    if eqb number 10 then null_place s p else
    if eqb number 11 then live_place s p else
    if eqb number 12 then shallow s p else
    true

-- every record and every place keeps the rule of a number
pub record Intact (s : State) (number : ℕ) : Type 0 where
  pub of_records : (r : ℕ) → r < 64 → record_keeps s number r ≡ true
  pub of_places : (p : ℕ) → p < 3072 → place_keeps s number p ≡ true

-- a record is where the first broken rule is broken: it breaks that rule, no lower record does, and every rule of a lower number is intact
pub record FirstAtRecord (s : State) (number r : ℕ) : Type 0 where
  pub is_record : r < 64
  pub breaks : record_keeps s number r ≡ false
  pub lower_keep : (lower : ℕ) → lower < r → record_keeps s number lower ≡ true
  pub earlier_intact : (earlier : ℕ) → earlier < number → Intact s earlier

-- a place is where the first broken rule is broken: it breaks that rule, no record does and no lower place, and every rule of a lower number is intact
pub record FirstAtPlace (s : State) (number p : ℕ) : Type 0 where
  pub is_place : p < 3072
  pub breaks : place_keeps s number p ≡ false
  pub lower_keep : (lower : ℕ) → lower < p → place_keeps s number lower ≡ true
  pub records_keep : (r : ℕ) → r < 64 → record_keeps s number r ≡ true
  pub earlier_intact : (earlier : ℕ) → earlier < number → Intact s earlier

-- The damage report names the damage: none exactly where the tables are sound, the lengths exactly where one is wrong, and otherwise where the first broken rule is first broken.
-- The rules after the first are numbered 2 to 12
pub record DamageNamed : Type 0 where
  pub no_fault : (tables : Tables) → (fault tables ≡ None) ↔ (sound tables ≡ true)
  pub lengths : (tables : Tables) → (fault tables ≡ Some Lengths) ↔ ((length tables.places ≡ 12288) × (length tables.objects ≡ 320) → ⊥)
  pub at_record : (tables : Tables) (number r : ℕ) → fault tables ≡ Some (AtRecord number r) → FirstAtRecord (shown tables) number r
  pub at_place : (tables : Tables) (number p : ℕ) → fault tables ≡ Some (AtPlace number p) → FirstAtPlace (shown tables) number p
  pub rule_numbers : map (λ (rule : Rule). rule.number) rules_of_damage ≡ 2 ∷ 3 ∷ 4 ∷ 5 ∷ 6 ∷ 7 ∷ 8 ∷ 9 ∷ 10 ∷ 11 ∷ 12 ∷ []
