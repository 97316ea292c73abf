-- Soundness as facts: each record and each place keeps each rule of damage; from the test to the facts, and back.
use Prim.Native.Nat.{ℕ, ◌<◌}
use mathlib.Core.Path.{◌≡◌, refl}
use mathlib.Core.Bool.{Bool, true}
use mathlib.Core.List.{List, [], ◌∷◌}
use Rattle.words.specs.Sizes.{space_of, places, records}
use Rattle.interface.specs.Basics.{all_below, any_below, count_below, all}
use Rattle.interface.specs.Places.{State}
use Rattle.interface.specs.Damage.{Rule, fixed_record, fixed_place, interrupt_rule, unnamed_rule, used_first, pds_below, pd_rule, has_pd, is_ec, ec_rule, sc_rule, pt_rule, null_place, live_place, shallow, rules_of_damage, keeps, sound_state}
use Rattle.interface.proofs.Basics.BoolLaws.{and_left, and_right, both}
use Rattle.interface.proofs.Basics.BelowLaws.{all_below_at, all_below_lem}

-- a test holds of each record, and of each place
abbrev pub OfRecords : (ℕ → Bool) → Type 0
OfRecords test = (r : ℕ) → r < records → test r ≡ true

abbrev pub OfPlaces : (ℕ → Bool) → Type 0
OfPlaces test = (p : ℕ) → p < places → test p ≡ true

-- the facts of a sound state, rule by rule
pub record Sound (s : State) : Type 0 where
  pub fixed_records : OfRecords (fixed_record s)
  pub fixed_places : OfPlaces (fixed_place s)
  pub interrupts : OfRecords (interrupt_rule s)
  pub unnameds : OfRecords (unnamed_rule s)
  pub used_firsts : OfRecords (used_first s)
  pub pds : OfRecords (pd_rule s)
  pub ecs : OfRecords (ec_rule s)
  pub scs : OfRecords (sc_rule s)
  pub pts : OfRecords (pt_rule s)
  pub nulls : OfPlaces (null_place s)
  pub lives : OfPlaces (live_place s)
  pub shallows : OfPlaces (shallow s)

-- what a state that keeps a rule tells of records and places, and back
pub kept_records : (s : State) (rule : Rule) → keeps s rule ≡ true → OfRecords (rule.record_keeps_lem s)
unfolding keeps
kept_records s rule h =
    all_below_at records (rule.record_keeps_lem s) (and_left (all_below records (rule.record_keeps_lem s)) (all_below places (rule.place_keeps_lem s)) h)

pub kept_places : (s : State) (rule : Rule) → keeps s rule ≡ true → OfPlaces (rule.place_keeps_lem s)
unfolding keeps
kept_places s rule h =
    all_below_at places (rule.place_keeps_lem s) (and_right (all_below records (rule.record_keeps_lem s)) (all_below places (rule.place_keeps_lem s)) h)

pub keeps_rule : (s : State) (rule : Rule) → OfRecords (rule.record_keeps_lem s) → OfPlaces (rule.place_keeps_lem s) → keeps s rule ≡ true
unfolding keeps
keeps_rule s rule hr hp =
    both (all_below records (rule.record_keeps_lem s)) (all_below places (rule.place_keeps_lem s)) (all_below_lem records (rule.record_keeps_lem s) hr)
    (all_below_lem places (rule.place_keeps_lem s) hp)

-- a test of each member of a list: of its first and of the others
pub all_head : {A : Type 0} (test : A → Bool) (a : A) (list : List A) → all test (a ∷ list) ≡ true → test a ≡ true
unfolding all
all_head test a list h = and_left (test a) (all test list) h

pub all_tail : {A : Type 0} (test : A → Bool) (a : A) (list : List A) → all test (a ∷ list) ≡ true → all test list ≡ true
unfolding all
all_tail test a list h = and_right (test a) (all test list) h

-- the statement of each member of a list of rules
abbrev pub Kept : State → List Rule → Type 0
Kept s [] = Unit {0}
Kept s (rule ∷ rules) = (OfRecords (rule.record_keeps_lem s) × OfPlaces (rule.place_keeps_lem s)) × Kept s rules

kept : (s : State) (rules : List Rule) → all (keeps s) rules ≡ true → Kept s rules
kept s [] h = tt
kept s (rule ∷ rules) h =
    let k : keeps s rule ≡ true = all_head (keeps s) rule rules h in
    ((kept_records s rule k, kept_places s rule k), kept s rules (all_tail (keeps s) rule rules h))

all_kept : (s : State) (rules : List Rule) → Kept s rules → all (keeps s) rules ≡ true
unfolding all
all_kept s [] k = refl
all_kept s (rule ∷ rules) k = both (keeps s rule) (all (keeps s) rules) (keeps_rule s rule k.0.0 k.0.1) (all_kept s rules k.1)

pub sound_facts : (s : State) → sound_state s ≡ true → Sound s
unfolding sound_state
sound_facts s h =
    let k = kept s rules_of_damage h in
    record {
      fixed_records = k.0.0;
      fixed_places = k.0.1;
      interrupts = k.1.0.0;
      unnameds = k.1.1.0.0;
      used_firsts = k.1.1.1.0.0;
      pds = k.1.1.1.1.0.0;
      ecs = k.1.1.1.1.1.0.0;
      scs = k.1.1.1.1.1.1.0.0;
      pts = k.1.1.1.1.1.1.1.0.0;
      nulls = k.1.1.1.1.1.1.1.1.0.1;
      lives = k.1.1.1.1.1.1.1.1.1.0.1;
      shallows = k.1.1.1.1.1.1.1.1.1.1.0.1;
    }

pub trivial : {n : ℕ} (r : ℕ) → r < n → true ≡ true
trivial r h = refl

pub facts_sound : (s : State) → Sound s → sound_state s ≡ true
unfolding sound_state
facts_sound s k =
    all_kept s rules_of_damage (
      (k.fixed_records, k.fixed_places),
      (
        (k.interrupts, trivial),
        (
          (k.unnameds, trivial),
          (
            (k.used_firsts, trivial),
            (
              (k.pds, trivial),
              (
                (k.ecs, trivial),
                (
                  (k.scs, trivial),
                  (
                    (k.pts, trivial),
                    (
                      (trivial, k.nulls),
                      (
                        (trivial, k.lives),
                        ((trivial, k.shallows), tt),
                      ),
                    ),
                  ),
                ),
              ),
            ),
          ),
        ),
      ),
    )

-- each of a list of tests holds of every number below one
abbrev pub Below : ℕ → List (ℕ → Bool) → Type 0
Below n [] = Unit {0}
Below n (test ∷ tests) = (all_below n test ≡ true) × Below n tests

-- a state is sound where the tests of records hold of all records, and those of places of all places
pub tested_sound : (s : State) →
    Below records (fixed_record s ∷ interrupt_rule s ∷ unnamed_rule s ∷ used_first s ∷ pd_rule s ∷ ec_rule s ∷ sc_rule s ∷ pt_rule s ∷ []) →
    Below places (fixed_place s ∷ null_place s ∷ live_place s ∷ shallow s ∷ []) → sound_state s ≡ true
tested_sound s (fixed, (interrupts, (unnamed, (used, (pd, (ec, (sc, (pt, _)))))))) (hypervisors, (null, (live, (flat, _)))) =
    facts_sound s
    (record {
      fixed_records = all_below_at records (fixed_record s) fixed;
      fixed_places = all_below_at places (fixed_place s) hypervisors;
      interrupts = all_below_at records (interrupt_rule s) interrupts;
      unnameds = all_below_at records (unnamed_rule s) unnamed;
      used_firsts = all_below_at records (used_first s) used;
      pds = all_below_at records (pd_rule s) pd;
      ecs = all_below_at records (ec_rule s) ec;
      scs = all_below_at records (sc_rule s) sc;
      pts = all_below_at records (pt_rule s) pt;
      nulls = all_below_at places (null_place s) null;
      lives = all_below_at places (live_place s) live;
      shallows = all_below_at places (shallow s) flat;
    })

-- to unfold this is to unfold what the rules of records, and all rules of damage, compute by
unfoldable pub record_rules_lem : Unit {0}
unfolding fixed_record interrupt_rule unnamed_rule used_first pds_below pd_rule has_pd is_ec ec_rule sc_rule pt_rule
record_rules_lem = tt

unfoldable pub damage_rules : Unit {0}
unfolding record_rules_lem fixed_place null_place live_place shallow space_of all_below any_below count_below
damage_rules = tt
