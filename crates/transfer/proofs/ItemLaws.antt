-- Laws of one typed item: the domain that it is delegated from, and what each way out of the code says of the definition.
use Rattle.std.specs.Prelude.{Ok, Err}
use Prim.Native.Nat.{ℕ, ◌+◌, ◌%◌, ◌^◌, ◌≤◌}
use mathlib.Core.Path.{◌≡◌, refl, sym, subst, ◌∙◌}
use mathlib.Core.Bool.{true, false, ◌&&◌}
use mathlib.Core.List.{List, []}
use native.Mathlib.Omega.{arith}
use lib.Dec.{eqb}
use borrow.Author.Tests.{eq-eqb, ne_eqb}
use Rattle.words.specs.Sizes.{object, selectors, place_of}
use Rattle.words.proofs.RangeLaws.{ends_inside}
use Rattle.descriptor.specs.declared.Range.{Range}
use Rattle.descriptor.specs.declared.Reading.{Reading}
use Rattle.descriptor.specs.Descriptors.{Match, Received, Proper, ShownProper}
use Rattle.descriptor.specs.declared.Reason.{Reason}
use Rattle.descriptor.specs.declared.Reason.TheVariants.{NothingFilled}
use Rattle.descriptor.proofs.DescriptorLaws.{proper_end}
use Rattle.interface.specs.Places.{State, places_in}
use Rattle.interface.specs.Boot.{hypervisor, root}
use Rattle.interface.specs.RangeDescriptors.{reading, matched}
use Rattle.interface.specs.Effects.{filled}
use Rattle.interface.specs.Message.{delegate_bit, hypervisor_bit, hotspot_field, Item, source_domain, smaller_order, raised_base, delegations, delegate_item, translate_item}
use Rattle.places.specs.Table.{Sized}
use Rattle.windows.specs.Matching.{Matched, destination_of}
use Rattle.windows.proofs.WindowLaws.{destination_proper}
use Rattle.translation.proofs.ShownLaws.{translated_proper}
use Rattle.delegation.specs.Delegating.{Taken}
use Rattle.delegation.proofs.DelegateLaws.{filled_few, running_none, running_taken}
use Rattle.transfer.specs.declared.Outcome.{Outcome}
use Rattle.transfer.specs.Typed.{item_by, Done}

-- the domain that an item is delegated from
module _ (sender second : ℕ) where
  pub source_hypervisor : (eqb (hypervisor_bit second) 1 && eqb sender root) ≡ true → hypervisor ≡ source_domain sender second
  unfolding source_domain
  source_hypervisor t = rw t

  pub source_own : (eqb (hypervisor_bit second) 1 && eqb sender root) ≡ false → sender ≡ source_domain sender second
  unfolding source_domain
  source_own f = rw f

-- no steps
taken_none : {table : List ℕ} → Sized table → Taken table table [] 0
taken_none sized = running_taken (running_none sized)

-- an item's delegations fill no more places than the object space has selectors
delegations_few : (from to hotspot : ℕ) (item window : Range) (s : State) → Matched item window → filled (delegations from to hotspot item window) s ≤ selectors object
delegations_few from to hotspot item window s m =
    let o = smaller_order item window in
    let within = ends_inside item.order o hotspot item.base (omega arith) in
    let few = filled_few (2 ^ o) (λ i. place_of to item.space (raised_base window o hotspot + i)) (λ i. place_of from item.space (raised_base item o hotspot + i)) (λ i. item.mask) s in
    omega (arith, proper_end m.item_proper)

-- what an outcome shows is proper
null_proper : (reason : Reason) → ShownProper (Err reason)
null_proper reason range e = let never : ◌≡◌ {A = ℕ} 0 1 = cc in absurd (omega arith)

shown_proper : (shown : Range) → Proper shown → ShownProper (Ok shown)
shown_proper shown proper range e = let same : shown ≡ range = cc in subst Proper same proper

-- a delegated item, by how many places its delegations filled
module _ (sender receiver second : ℕ) (item window : Range) {before after : List ℕ} {from hotspot filled : ℕ} (f : from ≡ source_domain sender second)
    (h : hotspot ≡ hotspot_field second) (t : Taken before after (delegations from receiver hotspot item window) filled) where
  taken_there : Taken before after (delegations (source_domain sender second) receiver (hotspot_field second) item window) filled
  taken_there = rw (f, h) at t

  pub delegated_none : filled ≡ 0 →
      Done before after (delegate_item (places_in before) sender receiver second (Ok (item, window))) (record { received = Err NothingFilled; filled = 0 })
  unfolding delegate_item
  delegated_none e =
      record {
        shown = rw (eq-eqb _ 0 (sym taken_there.fills ∙ e));
        proper = null_proper NothingFilled;
        taken = rw e at taken_there;
        few = omega arith;
      }

  pub delegated_some : {range : Range} → Matched item window → (filled ≡ 0 → ⊥) → range ≡ destination_of hotspot item window →
      Done before after (delegate_item (places_in before) sender receiver second (Ok (item, window))) (record { received = Ok range; filled = filled })
  unfolding delegate_item
  delegated_some {range} pair n r =
      record {
        shown = rw (ne_eqb _ 0 (λ e. n (taken_there.fills ∙ e)), r, h);
        proper = shown_proper range (rw r (destination_proper hotspot item window pair));
        taken = taken_there;
        few = rw taken_there.fills (delegations_few (source_domain sender second) receiver (hotspot_field second) item window (places_in before) pair);
      }

-- an item, by what its descriptors are read as
module _ (table : List ℕ) (sender receiver descriptor second : ℕ) (translating delegating : Reading) where
  abbrev the_item : Item
  the_item = item_by (places_in table) sender receiver descriptor second translating delegating

  module _ {match : Match} (bit : second % 2 ≡ 1) (m : match ≡ matched (reading descriptor) delegating) where
    is_delegated : the_item ≡ delegate_item (places_in table) sender receiver second match
    is_delegated = rw (eq-eqb (delegate_bit second) 1 (omega arith), m)

    pub delegated_null : (reason : Reason) → match ≡ Err reason → Sized table →
        Done table table the_item (record { received = Err reason; filled = 0 })
    unfolding delegate_item
    delegated_null reason e sized =
        rw (is_delegated, e) (record { shown = refl; proper = null_proper reason; taken = taken_none sized; few = omega arith })

    pub delegated_both : {item window : Range} {after : List ℕ} {outcome : Outcome} → match ≡ Ok (item, window) →
        Done table after (delegate_item (places_in table) sender receiver second (Ok (item, window))) outcome → Done table after the_item outcome
    delegated_both e d = rw (is_delegated, e) d

  module _ {match : Match} (bit : second % 2 ≡ 1 → ⊥) (m : match ≡ matched (reading descriptor) translating) where
    is_translated : the_item ≡ translate_item (places_in table) sender receiver match
    is_translated = rw (ne_eqb (delegate_bit second) 1 (λ e. bit (omega arith)), m)

    pub translated_null : (reason : Reason) → match ≡ Err reason → Sized table →
        Done table table the_item (record { received = Err reason; filled = 0 })
    unfolding translate_item
    translated_null reason e sized =
        rw (is_translated, e) (record { shown = refl; proper = null_proper reason; taken = taken_none sized; few = omega arith })

    pub translated_both : {item window : Range} {received : Received} → match ≡ Ok (item, window) → Matched item window →
        received ≡ (translate_item (places_in table) sender receiver (Ok (item, window))).received → Sized table →
        Done table table the_item (record { received = received; filled = 0 })
    unfolding translate_item
    translated_both {item} {window} e pair r sized =
        rw (is_translated, e)
        (record { shown = r; proper = translated_proper table sender receiver item window pair r; taken = taken_none sized; few = omega arith })
