-- Packing: what is joined fits, and what is packed is what was answered.
use Rattle.std.specs.Prelude.{Option, Some, None}
use Prim.Native.Nat.{ℕ, ◌<◌}
use mathlib.Core.Path.{◌≡◌, sym, ap, ◌∙◌}
use mathlib.Core.Bool.{true, false, not}
use mathlib.Core.List.{List, [], ◌∷◌}
use native.Mathlib.Omega.{arith}
use lib.Dec.{ltb}
use borrow.Author.Tests.{ltb-true}
use Rattle.words.specs.Sizes.{places, records}
use Rattle.reply.specs.Replies.{Reply}
use Rattle.reply.specs.declared.Fault.{Fault}
use Rattle.reply.specs.declared.Fault.TheVariants.{Lengths, AtRecord, AtPlace}
use Rattle.interface.specs.Basics.{lowest}
use Rattle.interface.specs.Places.{State, Tables, sized, shown, tables}
use Rattle.interface.specs.Damage.{Rule, rules_of_damage, first_fault, fault}
use Rattle.interface.specs.Census.{CensusResult}
use Rattle.interface.specs.Outcomes.{Booted, Outcome}
use Rattle.interface.proofs.Basics.BoolLaws.{cases}
use Rattle.repair_rules.specs.Repair.{Repairing}
use Rattle.abi.specs.Packing.{packed, packed_fault, booting, mending, calling, counting}

-- the place that a fault names, or 0
abbrev place_in : Option Fault → ℕ
place_in None = 0
place_in (Some Lengths) = 0
place_in (Some (AtRecord rule number)) = 0
place_in (Some (AtPlace rule place)) = place

-- it is a place
first_inside : (s : State) (rules : List Rule) → place_in (first_fault s rules) < places
unfolding first_fault
first_inside s [] = omega arith
first_inside s (rule ∷ rules) =
    let r = lowest records (λ i. not (rule.record_keeps_lem s i)) in
    let p = lowest places (λ i. not (rule.place_keeps_lem s i)) in
    cases (ltb r records) (λ (t : ltb r records ≡ true). rw t (omega arith))
    (λ (f : ltb r records ≡ false).
    cases (ltb p places) (λ (t : ltb p places ≡ true). rw (f, t) (ltb-true p places t)) (λ (g : ltb p places ≡ false). rw (f, g) (first_inside s rules)))

pub place_inside : (tables : Tables) (rule place : ℕ) → Some (AtPlace rule place) ≡ fault tables → place < places
unfolding fault
place_inside tables rule place e =
    let inside : place_in (fault tables) < places =
    cases (sized tables) (λ (t : sized tables ≡ true). rw t (first_inside (shown tables) rules_of_damage)) (λ (f : sized tables ≡ false). rw f (omega arith)) in
    omega (arith, inside, ap place_in e)

-- a reply packed is what boot, a hypercall, a census or repair came to, packed
pub boots : {places objects places_after objects_after : List ℕ} {reply : Reply} {word : ℕ} → Booted places objects places_after objects_after reply →
    word ≡ packed reply → record { word = word; tables = tables places_after objects_after } ≡ booting (tables places objects)
boots booted is_Is_word = λ i. record { word = (is_Is_word ∙ ap packed booted.replies) i; tables = booted.leaves i }

pub calls : {reached : Outcome} {reply : Reply} {after : Tables} {block : List ℕ} {word : ℕ} →
    record { reply = reply; tables = after; block = block } ≡ reached → word ≡ packed reply →
    record { word = word; tables = after; block = block } ≡ calling reached
calls e is_Is_word = rw is_Is_word (ap calling e)

pub counts : {result : CensusResult} {reply : Reply} {list : List ℕ} {word : ℕ} → record { reply = reply; list = list } ≡ result → word ≡ packed reply →
    record { word = word; list = list } ≡ counting result
counts e is_Is_word = rw is_Is_word (ap counting e)

pub mends : {repairing : Repairing} {reply : Reply} {after : Tables} {word : ℕ} → record { reply = reply; tables = after } ≡ repairing → word ≡ packed reply →
    record { word = word; tables = after } ≡ mending repairing
mends e is_Is_word = rw is_Is_word (ap mending e)

-- and so is a fault
pub faults : {found : Option Fault} (tables : Tables) (is : Option Fault) {word : ℕ} → found ≡ fault tables → found ≡ is → word ≡ packed_fault is → word ≡ packed_fault (fault tables)
faults tables is e same is_Is_word = is_Is_word ∙ ap packed_fault (sym same ∙ e)
