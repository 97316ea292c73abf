-- A creation that its checks refuse runs its rule, and so does one that takes its steps.
use Rattle.std.specs.Prelude.{Result, Ok, Err}
use Rattle.reply.specs.declared.Refusal.{Refusal}
use Prim.Native.Nat.{ℕ, ◌<◌}
use mathlib.Core.Path.{◌≡◌, ap}
use mathlib.Core.Bool.{true}
use mathlib.Core.List.{List, [], ◌∷◌, ◌++◌}
use Rattle.words.specs.Sizes.{records}
use Rattle.layout.specs.declared.ObjectNumber.{ObjectNumber}
use Rattle.descriptor.specs.declared.Reading.{Reading}
use Rattle.reply.specs.Replies.{Reply}
use Rattle.interface.specs.Basics.{word, put}
use Rattle.interface.specs.Places.{Cap, State, kind_word, parentless, greatest_of, object_place, cap_at, object_at, cap_table, record_table, tables, view}
use Rattle.interface.specs.Effects.{make, hold, act, run}
use Rattle.interface.specs.Verdicts.{refuse, grant}
use Rattle.interface.proofs.Basics.PutLaws.{put_same}
use Rattle.interface.proofs.Tables.TableLaws.{cap_table_back, record_table_back}
use Rattle.interface.proofs.Tables.TurnLaws.{run_append}
use Rattle.places.specs.Table.{Sized as SizedPlaces}
use Rattle.objects.specs.Records.{Sized as SizedObjects, words_of}
use Rattle.creation_rule.specs.declared.Creation.{Creation}
use Rattle.creation_rule.specs.CreationRule.{gives, Says, Decides, passed, failed, Hands, Handed, Creates}

module _ {s : State} {domain selector pd : ℕ} {new : Creation} where
  -- what the checks' result tells
  failed_says : {refusal : Refusal} → Decides s domain selector pd new (Err refusal) → Says s domain selector pd new (λ words. refuse refusal)
  failed_says (failed refusal says) = says

  passed_says : {number : ObjectNumber} → Decides s domain selector pd new (Ok number) →
      Says s domain selector pd new
      (λ words. grant 0 (make number.0 words ∷ gives domain new ++ (hold (object_place domain selector) number.0 ∷ [])))
  passed_says (passed number small good left says) = says

  passed_small : {number : ObjectNumber} → Decides s domain selector pd new (Ok number) → number.0 < records
  passed_small (passed number small good left says) = small

  passed_tests : {number : ObjectNumber} → Decides s domain selector pd new (Ok number) →
      (new.parameters_good ≡ true) × (new.domain_left ≡ true)
  passed_tests (passed number small good left says) = (good, left)

  module _ {found : Result ObjectNumber Refusal} {number : ObjectNumber} (decides : Decides s domain selector pd new found) (e : found ≡ Ok number) where
    -- the record that the object takes is one of the records
    pub takes_small : number.0 < records
    takes_small = passed_small (rw e at decides)

    -- the initial range can be handed on
    pub takes_handed : (to : ℕ) (initial : Reading) → (new.parameters_good ≡ true → new.domain_left ≡ true → Handed to initial) → Handed to initial
    takes_handed to initial handed = let tests = passed_tests (rw e at decides) in handed tests.0 tests.1

module _ {places objects : List ℕ} {domain selector pd : ℕ} {new : Creation} {found : Result ObjectNumber Refusal}
    (decides : Decides (view places objects) domain selector pd new found) where
  -- a refusal leaves the tables
  pub refused_creates : {refusal : Refusal} → SizedPlaces places → SizedObjects objects → found ≡ Err refusal →
      Creates domain selector pd new (tables places objects) (tables places objects) (Err refusal)
  unfolding run
  refused_creates places_sized objects_sized e =
      record {
        runs =
            λ c words asks same.
            let is = (failed_says (rw e at decides)).says c words asks in
            record { replies = rw is; leaves = rw (is, cap_table_back places places_sized, record_table_back objects objects_sized) };
      }

  -- the steps leave the tables in which the object is stored, the initial range is handed on, and the new place is filled
  pub granted_creates : {between places_after objects_after : List ℕ} {number : ObjectNumber} {place named permissions : ℕ} {cap : Cap} → found ≡ Ok number →
      objects_after ≡ record_table (put (object_at objects) number.0 (word (words_of new.object))) → Hands (gives domain new) places between →
      place ≡ object_place domain selector → named ≡ number.0 → permissions ≡ greatest_of new.object.0 → cap ≡ parentless named permissions →
      places_after ≡ cap_table (put (cap_at between) place cap) →
      Creates domain selector pd new (tables places objects) (tables places_after objects_after) (Ok 0)
  unfolding run act
  granted_creates {number = number} e stored hands is_place is_number is-greatest is_cap filled =
      record {
        runs =
            λ c words asks same.
            let is = (passed_says (rw e at decides)).says c words asks in
            let kind_is = ap (λ (row : ℕ → ℕ). row kind_word) same in
            record {
              replies = rw is;
              leaves =
                  rw (
                    is,
                    run_append (gives domain new),
                    hands.turns,
                    stored,
                    filled,
                    is_cap,
                    is_place,
                    is_number,
                    is-greatest,
                    same,
                    put_same (object_at objects) number.0 (word words),
                    kind_is,
                  );
            };
      }
