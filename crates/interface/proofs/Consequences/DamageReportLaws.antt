-- The damage report names the damage: along rules that are numbered in turn, each is intact or is where the report stops.
use Rattle.std.specs.Prelude.{Option, Some, None}
use Prim.Native.Nat.{ℕ, zero, suc, ◌<◌}
use mathlib.Core.Path.{◌≡◌, refl}
use mathlib.Core.Logic.{◌↔◌}
use mathlib.Core.Bool.{true, false, ◌&&◌, false≢true}
use mathlib.Core.List.{List, [], ◌∷◌}
use native.Mathlib.Omega.{arith}
use lib.Dec.{eqb, ltb}
use lib.ListN.{length}
use borrow.Author.Tests.{ltb-true, eq-eqb}
use Rattle.words.specs.Sizes.{places, records}
use Rattle.reply.specs.declared.Fault.{Fault}
use Rattle.reply.specs.declared.Fault.TheVariants.{Lengths, AtRecord, AtPlace}
use Rattle.interface.specs.Basics.{all}
use Rattle.interface.specs.Places.{State, Tables, place_table_words, object_table_words, sized, shown}
use Rattle.interface.specs.Damage.{Rule, rules_of_damage, keeps, sound_state, sound, first_fault, fault}
use Rattle.interface.specs.DamageReport.{record_keeps, place_keeps, Intact, FirstAtRecord, FirstAtPlace, DamageNamed}
use Rattle.interface.proofs.Basics.BoolLaws.{cases, both}
use Rattle.interface.proofs.Basics.BelowLaws.{below_suc, lowest_failure, failure_fails, below_failure, no_failure, all_hold}
use Rattle.interface.proofs.Tables.TableLaws.{places_long, objects_long}
use Rattle.interface.proofs.Sound.Soundness.{kept_records, kept_places, keeps_rule, all_head, all_tail}

-- the two kinds of damage that stand somewhere, each named by the report as it is
abbrev Named : State → Option Fault → Type 0
Named s None = Unit {0}
Named s (Some Lengths) = Unit {0}
Named s (Some (AtRecord number r)) = FirstAtRecord s number r
Named s (Some (AtPlace number p)) = FirstAtPlace s number p

-- the rule of a number, and as many rules as asked for, numbered in turn from a number on
abbrev numbered : ℕ → Rule
numbered number = record { number = number; record_keeps_lem = λ s. record_keeps s number; place_keeps_lem = λ s. place_keeps s number }

abbrev rules_from : ℕ → ℕ → List Rule
rules_from number zero = []
rules_from number (suc more) = numbered number ∷ rules_from (suc number) more

-- one more rule is intact
one_more : (s : State) (number : ℕ) → ((earlier : ℕ) → earlier < number → Intact s earlier) → Intact s number → (earlier : ℕ) → earlier < suc number → Intact s earlier
one_more s number before this earlier l = below_suc earlier number l (before earlier) (λ (e : earlier ≡ number). rw e this)

-- the lowest record and the lowest place that break a rule
module _ (s : State) (rule : Rule) where
  abbrev record_failure : ℕ
  record_failure = lowest_failure records (rule.record_keeps_lem s)

  abbrev place_failure : ℕ
  place_failure = lowest_failure places (rule.place_keeps_lem s)

-- what the rule of a number tells where all before it are intact
module _ (s : State) (number : ℕ) (before : (earlier : ℕ) → earlier < number → Intact s earlier) where
  abbrev r : ℕ
  r = record_failure s (numbered number)

  abbrev p : ℕ
  p = place_failure s (numbered number)

  stops_at_record : ltb r records ≡ true → FirstAtRecord s number r
  stops_at_record t =
      let l = ltb-true r records t in
      record { is_record = l; breaks = failure_fails records (record_keeps s number) l; lower_keep = below_failure records (record_keeps s number); earlier_intact = before }

  stops_at_place : ltb r records ≡ false → ltb p places ≡ true → FirstAtPlace s number p
  stops_at_place f t =
      let l = ltb-true p places t in
      record {
        is_place = l;
        breaks = failure_fails places (place_keeps s number) l;
        lower_keep = below_failure places (place_keeps s number);
        records_keep = no_failure records (record_keeps s number) f;
        earlier_intact = before;
      }

  goes_on : ltb r records ≡ false → ltb p places ≡ false → Intact s number
  goes_on f g = record { of_records = no_failure records (record_keeps s number) f; of_places = no_failure places (place_keeps s number) g }

-- where the report stops in rules that are numbered in turn, all before them intact
first_named : (s : State) (number more : ℕ) → ((earlier : ℕ) → earlier < number → Intact s earlier) → Named s (first_fault s (rules_from number more))
unfolding first_fault
first_named s number zero before = tt
first_named s number (suc more) before =
    let r = record_failure s (numbered number) in
    let p = place_failure s (numbered number) in
    cases (ltb r records) (λ (t : ltb r records ≡ true). rw t (stops_at_record s number before t))
    (λ (f : ltb r records ≡ false).
    cases (ltb p places) (λ (t : ltb p places ≡ true). rw (f, t) (stops_at_place s number before f t))
    (λ (g : ltb p places ≡ false). rw (f, g) (first_named s (suc number) more (one_more s number before (goes_on s number before f g)))))

-- the report is none exactly where all rules are kept
none_kept : (s : State) (rules : List Rule) → first_fault s rules ≡ None → all (keeps s) rules ≡ true
unfolding first_fault all
none_kept s [] h = refl
none_kept s (rule ∷ rules) h =
    let r = record_failure s rule in
    let p = place_failure s rule in
    cases (ltb r records)
    (λ (t : ltb r records ≡ true). let at : Some (AtRecord rule.number r) ≡ None = rw t at h in let z : ◌≡◌ {A = ℕ} 0 1 = cc in absurd (omega arith))
    (λ (f : ltb r records ≡ false).
    cases (ltb p places)
    (λ (t : ltb p places ≡ true). let at : Some (AtPlace rule.number p) ≡ None = rw (f, t) at h in let z : ◌≡◌ {A = ℕ} 0 1 = cc in absurd (omega arith))
    (λ (g : ltb p places ≡ false).
    both (keeps s rule) (all (keeps s) rules)
    (keeps_rule s rule (no_failure records (rule.record_keeps_lem s) f) (no_failure places (rule.place_keeps_lem s) g))
    (none_kept s rules (rw (f, g) at h))))

pub kept_none : (s : State) (rules : List Rule) → all (keeps s) rules ≡ true → first_fault s rules ≡ None
unfolding first_fault
kept_none s [] h = refl
kept_none s (rule ∷ rules) h =
    let k : keeps s rule ≡ true = all_head (keeps s) rule rules h in
    rw (all_hold records (rule.record_keeps_lem s) (kept_records s rule k), all_hold places (rule.place_keeps_lem s) (kept_places s rule k))
    (kept_none s rules (all_tail (keeps s) rule rules h))

-- the rules of damage are numbered in turn from 2 on, and no rule has a lower number
rules_in_turn : rules_of_damage ≡ rules_from 2 11
unfolding record_keeps place_keeps
rules_in_turn = refl

none_earlier : (s : State) (earlier : ℕ) → earlier < 2 → Intact s earlier
unfolding record_keeps place_keeps
none_earlier s zero l = record { of_records = λ r b. refl; of_places = λ p b. refl }
none_earlier s (suc zero) l = record { of_records = λ r b. refl; of_places = λ p b. refl }
none_earlier s (suc (suc earlier)) l = absurd (omega arith)

-- a fault of tables is that of the state that they show, where their lengths are right
sized_named : (tables : Tables) → Named (shown tables) (fault tables)
unfolding fault
sized_named tables =
    cases (sized tables) (λ (t : sized tables ≡ true). rw (t, rules_in_turn) (first_named (shown tables) 2 11 (none_earlier (shown tables))))
    (λ (f : sized tables ≡ false). rw f tt)

named_at : (s : State) (found named : Option Fault) → found ≡ named → Named s found → Named s named
named_at s found named e h = rw e at h

no_fault_sound : (tables : Tables) → (fault tables ≡ None) ↔ (sound tables ≡ true)
unfolding fault sound sound_state
no_fault_sound tables =
    cases (sized tables) (λ (t : sized tables ≡ true). rw t (none_kept (shown tables) rules_of_damage, kept_none (shown tables) rules_of_damage))
    (λ (f : sized tables ≡ false).
    rw f ((λ h. let z : ◌≡◌ {A = ℕ} 0 1 = cc in absurd (omega arith)), (λ h. absurd (false≢true h))))

-- a state has no fault of lengths
never_lengths : (s : State) (rules : List Rule) → first_fault s rules ≡ Some Lengths → ⊥
unfolding first_fault
never_lengths s [] h = let z : ◌≡◌ {A = ℕ} 0 1 = cc in omega arith
never_lengths s (rule ∷ rules) h =
    cases (ltb (record_failure s rule) records)
    (λ (t : ltb (record_failure s rule) records ≡ true).
    let at : Some (AtRecord rule.number (record_failure s rule)) ≡ Some Lengths = rw t at h in let z : ◌≡◌ {A = ℕ} 0 1 = cc in omega arith)
    (λ (f : ltb (record_failure s rule) records ≡ false).
    cases (ltb (place_failure s rule) places)
    (λ (t : ltb (place_failure s rule) places ≡ true).
    let at : Some (AtPlace rule.number (place_failure s rule)) ≡ Some Lengths = rw (f, t) at h in let z : ◌≡◌ {A = ℕ} 0 1 = cc in omega arith)
    (λ (g : ltb (place_failure s rule) places ≡ false). never_lengths s rules (rw (f, g) at h)))

lengths_wrong : (tables : Tables) → (fault tables ≡ Some Lengths) ↔ ((length tables.places ≡ place_table_words) × (length tables.objects ≡ object_table_words) → ⊥)
unfolding fault sized
lengths_wrong tables =
    let places_right = eqb (length tables.places) place_table_words in
    let objects_right = eqb (length tables.objects) object_table_words in (
      (λ h (p, o).
          never_lengths (shown tables) rules_of_damage
          (rw (eq-eqb (length tables.places) place_table_words p, eq-eqb (length tables.objects) object_table_words o) at h)),
      (λ wrong.
          cases (places_right && objects_right)
          (λ (t : (places_right && objects_right) ≡ true).
          absurd (wrong (places_long tables t, objects_long tables t)))
          (λ (f : (places_right && objects_right) ≡ false). rw f)),
    )

pub damage_named : DamageNamed
damage_named =
    record {
      no_fault = no_fault_sound;
      lengths = lengths_wrong;
      at_record = λ tables number r e. named_at (shown tables) (fault tables) (Some (AtRecord number r)) e (sized_named tables);
      at_place = λ tables number p e. named_at (shown tables) (fault tables) (Some (AtPlace number p)) e (sized_named tables);
      rule_numbers = refl;
    }
