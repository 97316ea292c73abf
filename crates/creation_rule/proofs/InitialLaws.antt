-- The initial range of a new PD: one more of its delegations, and the number of the domain that it goes to.
use Prim.Native.Nat.{ℕ, ◌+◌, ◌<◌}
use mathlib.Core.Path.{◌≡◌, refl, sym, ap, ◌∙◌}
use mathlib.Core.Bool.{Bool, true}
use mathlib.Core.List.{List, []}
use native.Mathlib.Numerals.{add-one}
use native.Mathlib.Omega.{arith}
use lib.Dec.{eqb, ltb}
use mir.Syntax.{w32}
use mir.Val.{Fits}
use borrow.Author.Tests.{eqb-true, ltb-true}
use Rattle.words.specs.Sizes.{domains, object, place_of, records}
use Rattle.words.specs.Sizes.{places as placeCount}
use Rattle.descriptor.specs.declared.Range.{Range}
use Rattle.descriptor.specs.declared.Reading.{Reading}
use Rattle.descriptor.specs.declared.Reading.TheVariants.{Null, Malformed, Good}
use Rattle.descriptor.specs.Descriptors.{reading}
use Rattle.descriptor.proofs.DescriptorLaws.{good_proper}
use Rattle.interface.specs.Basics.{listed}
use Rattle.interface.specs.Places.{PD, kind_word, cap_at, object_at, cap_table}
use Rattle.interface.specs.Damage.{pds_below}
use Rattle.interface.specs.Effects.{given_caps, act, run}
use Rattle.interface.specs.Creations.{initial_good, hand_on, initial_gives}
use Rattle.interface.proofs.Basics.LoopLaws.{count_below_small}
use Rattle.interface.proofs.Tables.TableLaws.{cap_at_end}
use Rattle.interface.proofs.Tables.TurnLaws.{run_append}
use Rattle.places.specs.Table.{Sized, Given}
use Rattle.places.proofs.CapTableLaws.{cap_at_table, given_end}
use Rattle.objects.specs.Records.{records_in}
use Rattle.creation_rule.specs.CreationRule.{Hands, Handed}

-- no delegations leave a table
pub hands_none : (table : List ℕ) → Hands [] table table
unfolding run
hands_none table = record { turns = λ objects. refl }

-- an initial descriptor that is no range hands on nothing
pub hands_nothing : (from to : ℕ) (initial : Reading) (table : List ℕ) → ((range : Range) → initial ≡ Good range → ⊥) → Hands (initial_gives from to initial) table table
hands_nothing from to Null table n = hands_none table
hands_nothing from to Malformed table n = hands_none table
hands_nothing from to (Good range) table n = absurd (n range refl)

-- one more place is handed on by a delegation
pub hands_more : (from to base mask offset : ℕ) {before table after : List ℕ} {destination source selector masked : ℕ} {filled : Bool} → Sized table →
    destination < placeCount → selector ≡ base + offset → destination ≡ place_of to object selector → source ≡ place_of from object selector →
    masked ≡ mask → Hands (hand_on from to base offset mask) before table → Given table after destination source masked filled →
    Hands (hand_on from to base (offset + 1) mask) before after
unfolding listed run act
hands_more from to base mask offset {before} {table} {after} {destination} {source} sized small is_selector is_destination is_source is_mask hands given =
    record {
      turns =
          λ objects.
          let caps = given_caps (cap_at table) destination source mask in
          let shows : cap_at after ≡ caps =
          ap cap_at (given.leaves ∙ ap (λ (m : ℕ). cap_table (given_caps (cap_at table) destination source m)) is_mask) ∙
          cap_at_table caps (given_end (cap_at table) destination source mask (cap_at_end table sized) small) in
          rw (add-one offset)
          (rw (run_append (hand_on from to base offset mask), hands.turns, shows, is_destination, is_source, is_selector));
    }

-- the initial descriptor of a word can be handed on to a domain, where both pass their tests
pub initial_handed : (word to : ℕ) (initial : Reading) {good : Bool} → initial ≡ reading word → good ≡ initial_good initial → good ≡ true →
    ltb to domains ≡ true → Handed to initial
initial_handed word to Null is is_good t left = tt
initial_handed word to Malformed is is_good t left = tt
initial_handed word to (Good range) is is_good t left =
    (good_proper word range (sym is), eqb-true range.space object (sym is_good ∙ t), ltb-true to domains left)

-- there are no more PDs than records, so the next domain's number is a word
pub next_fits : {count : ℕ} (table : List ℕ) → count ≡ pds_below (records_in table) records → Fits w32 (count + 1)
unfolding pds_below
next_fits table e = omega (arith, count_below_small (λ r. eqb (object_at table r kind_word) PD) records)
