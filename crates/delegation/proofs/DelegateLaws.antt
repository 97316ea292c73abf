-- Laws of delegations in turn on a place table: what it shows after some of them, and how many places they filled.
use Prim.Native.Nat.{ℕ, zero, suc, ◌+◌, ◌%◌, ◌^◌, ◌≤◌, ◌<◌, min}
use mathlib.Core.Path.{◌≡◌, refl, sym, ap, ◌∙◌}
use mathlib.Core.Bool.{Bool, true, false}
use mathlib.Core.List.{List, [], ◌∷◌, ◌++◌}
use native.Mathlib.Nat.{add-zero}
use native.Mathlib.Numerals.{add-one}
use native.Mathlib.Omega.{arith}
use Rattle.words.specs.Sizes.{domains, selectors, place_of}
use Rattle.words.specs.Ranges.{rounded}
use Rattle.words.proofs.PlaceLaws.{is_place, space_back}
use Rattle.descriptor.specs.declared.Range.{Range}
use Rattle.std.specs.Prelude.{if◌then◌else◌}
use Rattle.interface.specs.Basics.{listed}
use Rattle.interface.specs.Places.{State, cap_at, cap_table, places_in}
use Rattle.interface.specs.Effects.{Effect, give, fills, given_caps, act, run, fills_one, filled}
use Rattle.interface.specs.Message.{smaller_order, raised_base, delegations}
use Rattle.interface.proofs.Basics.BoolLaws.{either_way}
use Rattle.interface.proofs.Tables.TableLaws.{cap_table_back, cap_at_end}
use Rattle.interface.proofs.Tables.TurnLaws.{run_append, filled_append, gives}
use Rattle.places.specs.Table.{Sized, Given}
use Rattle.places.proofs.CapTableLaws.{length_cap_table, cap_at_table, given_end}
use Rattle.windows.specs.Matching.{Matched}
use Rattle.delegation.specs.Delegating.{LiveLinks, GivenAt, Taken}
use Rattle.delegation.proofs.LiveLinkLaws.{give_links}

-- a delegation of one place, by what its source and its destination are made of
pub given_places : (from to : ℕ) (item window : Range) (at into : ℕ) {before after : List ℕ} {destination source mask space selector other : ℕ} {filled : Bool} →
    Given before after destination source mask filled → mask ≡ item.mask → destination ≡ place_of to space selector →
    (selector ≡ window.base + into) × (selector < selectors window.space) → source ≡ place_of from space other →
    (other ≡ item.base + at) × (other < selectors item.space) → space ≡ item.space → from < domains → to < domains → Matched item window →
    GivenAt before after (place_of to item.space (window.base + into)) (place_of from item.space (item.base + at)) item.mask filled
given_places from to item window at into {before} {after} {destination} {source} {mask} {space} {selector} {other} {filled} g m d l s k e f t both =
    let small = both.item_proper.space_small in
    let there : destination ≡ place_of to item.space (window.base + into) = rw (e, l.0) at d in
    let here : source ≡ place_of from item.space (item.base + at) = rw (e, k.0) at s in
    let into_small : window.base + into < selectors item.space = rw (l.0, sym both.same_space) at l.1 in
    let at_small : item.base + at < selectors item.space = rw k.0 at k.1 in
    record {
      is_place = is_place to item.space (window.base + into) t small into_small;
      from_place = is_place from item.space (item.base + at) f small at_small;
      same_space = space_back from item.space (item.base + at) small at_small ∙ sym (space_back to item.space (window.base + into) small into_small);
      given = rw (there, here, m) at g;
    }

-- one more of a list of values
listed_more : {A : Type 0} (n : ℕ) (f : ℕ → A) → listed (n + 1) f ≡ listed n f ++ (f n ∷ [])
unfolding listed
listed_more n f = rw (add-one n)

-- one more delegation
pub run_more : (effects : List Effect) (destination source mask : ℕ) (s : State) →
    run (effects ++ (give destination source mask ∷ [])) s ≡ act (give destination source mask) (run effects s)
unfolding run
run_more effects destination source mask s = run_append effects (give destination source mask ∷ []) s

pub filled_more : (effects : List Effect) (destination source mask : ℕ) (s : State) →
    filled (effects ++ (give destination source mask ∷ [])) s ≡ filled effects s + (if fills (run effects s).caps destination source mask then 1 else 0)
unfolding filled fills_one
filled_more effects destination source mask s = filled_append effects (give destination source mask ∷ []) s ∙ omega arith

-- no more places are filled than there are delegations
pub filled_few : (n : ℕ) (destination source mask : ℕ → ℕ) (s : State) → filled (listed n (λ i. give (destination i) (source i) (mask i))) s ≤ n
unfolding listed filled
filled_few zero destination source mask s = omega arith
filled_few (suc n) destination source mask s =
    let one = either_way (λ (k : ℕ). k ≤ 1) (fills (run (gives destination source mask n) s).caps (destination n) (source n) (mask n)) 1 0 (omega arith) (omega arith) in
    omega (arith, filled_more (gives destination source mask n) (destination n) (source n) (mask n) s, filled_few n destination source mask s)

-- what a table shows after some delegations, how many places they filled, and that live links are so still
pub record Running (start now : List ℕ) (effects : List Effect) (count : ℕ) : Type 0 where
  pub sized : Sized now
  pub shows : places_in now ≡ run effects (places_in start)
  pub fills : count ≡ filled effects (places_in start)
  pub links_stay : LiveLinks (cap_at start) → LiveLinks (cap_at now)

pub running_none : {start : List ℕ} → Sized start → Running start start [] 0
unfolding run filled
running_none sized = record { sized = sized; shows = refl; fills = refl; links_stay = λ links. links }

running_give : {start now after : List ℕ} {effects : List Effect} {count : ℕ} {filled : Bool} (destination source mask : ℕ) →
    Running start now effects count → GivenAt now after destination source mask filled →
    Running start after (effects ++ (give destination source mask ∷ [])) (count + (if filled then 1 else 0))
unfolding act
running_give {start} {now} {after} {effects} {count} {filled} destination source mask r g =
    let caps = given_caps (cap_at now) destination source mask in
    let ends = given_end (cap_at now) destination source mask (cap_at_end now r.sized) g.is_place in
    let is_after : cap_at after ≡ caps = rw g.given.leaves (cap_at_table caps ends) in
    record {
      sized = rw g.given.leaves (length_cap_table caps);
      shows = rw (is_after, run_more effects destination source mask (places_in start), sym r.shows);
      fills = rw (g.given.is_filled, r.fills, filled_more effects destination source mask (places_in start), sym r.shows);
      links_stay = λ links. rw is_after (give_links (cap_at now) destination source mask g.from_place g.same_space (r.links_stay links));
    }

pub running_taken : {start now : List ℕ} {effects : List Effect} {count : ℕ} → Running start now effects count → Taken start now effects count
running_taken {start} {now} r =
    record {
      leaves = sym (cap_table_back now r.sized) ∙ ap (λ (s : State). cap_table s.caps) r.shows;
      shows = r.shows;
      fills = r.fills;
      links_stay = r.links_stay;
    }

-- the delegations of an item to its window at the offsets below one
abbrev begun : ℕ → ℕ → ℕ → Range → Range → ℕ → List Effect
begun from to hotspot item window n =
    let o = smaller_order item window in
    listed n
    (λ i.
    give (place_of to item.space (raised_base window o hotspot + i)) (place_of from item.space (raised_base item o hotspot + i)) item.mask)

-- where a delegation of an item stands: the part of each side that it uses, and what the table shows after the offsets below the present one
pub record Going (start : List ℕ) (from to hotspot : ℕ) (item window : Range) (order at into size : ℕ) (table : List ℕ) (count i : ℕ) : Type 0 where
  pub from_small : from < domains
  pub to_small : to < domains
  pub matched : Matched item window
  pub is_order : order ≡ smaller_order item window
  pub is_size : size ≡ 2 ^ order
  pub at_is : at ≡ rounded order (hotspot % 2 ^ item.order)
  pub at_ends : at + size ≤ 2 ^ item.order
  pub into_is : into ≡ rounded order (hotspot % 2 ^ window.order)
  pub into_ends : into + size ≤ 2 ^ window.order
  pub count_small : count ≤ i
  pub inside : i ≤ size
  pub running : Running start table (begun from to hotspot item window i) count

-- before any offset is done, with the numbers as the code makes them
pub going_begins : (start : List ℕ) (from to hotspot : ℕ) (item window : Range) {item_order window_order order at into size : ℕ} →
    Sized start × (from < domains) × (to < domains) × Matched item window → item_order ≡ item.order → window_order ≡ window.order →
    order ≡ min item_order window_order → (at ≡ rounded order (hotspot % 2 ^ item_order)) × (at + 2 ^ order ≤ 2 ^ item_order) →
    (into ≡ rounded order (hotspot % 2 ^ window_order)) × (into + 2 ^ order ≤ 2 ^ window_order) → size ≡ 2 ^ order →
    Going start from to hotspot item window order at into size start 0 0
unfolding listed
going_begins start from to hotspot item window {item_order} {window_order} {order} {at} {into} {size} pre i w o a b z =
    record {
      from_small = pre.1;
      to_small = pre.2;
      matched = pre.3;
      is_order = rw (i, w) at o;
      is_size = z;
      at_is = rw i at a.0;
      at_ends = rw (z, sym i) a.1;
      into_is = rw w at b.0;
      into_ends = rw (z, sym w) b.1;
      count_small = omega arith;
      inside = omega arith;
      running = running_none pre.0;
    }

module _ {start : List ℕ} {from to hotspot : ℕ} {item window : Range} {order at into size : ℕ} {table : List ℕ} {count i : ℕ}
    (g : Going start from to hotspot item window order at into size table count i) where
  -- one offset more, whose destination was filled or not
  going_on : {after : List ℕ} {filled : Bool} → i < size →
      GivenAt table after (place_of to item.space (window.base + (into + i))) (place_of from item.space (item.base + (at + i))) item.mask filled →
      Going start from to hotspot item window order at into size after (count + (if filled then 1 else 0)) (i + 1)
  going_on {after} {filled} l given =
      let o = smaller_order item window in
      let destination = place_of to item.space (raised_base window o hotspot + i) in
      let source = place_of from item.space (raised_base item o hotspot + i) in
      let is_destination : place_of to item.space (window.base + (into + i)) ≡ destination = rw (g.into_is, g.is_order) (omega arith) in
      let is_source : place_of from item.space (item.base + (at + i)) ≡ source = rw (g.at_is, g.is_order) (omega arith) in
      let one : (if filled then 1 else 0) ≤ 1 = either_way (λ (n : ℕ). n ≤ 1) filled 1 0 (omega arith) (omega arith) in
      let given_there : GivenAt table after destination source item.mask filled = rw (is_destination, is_source) at given in
      record {
        from_small = g.from_small;
        to_small = g.to_small;
        matched = g.matched;
        is_order = g.is_order;
        is_size = g.is_size;
        at_is = g.at_is;
        at_ends = g.at_ends;
        into_is = g.into_is;
        into_ends = g.into_ends;
        count_small = omega arith;
        inside = omega arith;
        running =
            rw (listed_more i (λ k. give (place_of to item.space (raised_base window o hotspot + k)) (place_of from item.space (raised_base item o hotspot + k)) item.mask))
            (running_give destination source item.mask g.running given_there);
      }

  pub going_filled : {after : List ℕ} {filled : Bool} {next : ℕ} → i < size →
      GivenAt table after (place_of to item.space (window.base + (into + i))) (place_of from item.space (item.base + (at + i))) item.mask filled →
      filled ≡ true → next ≡ count + 1 → Going start from to hotspot item window order at into size after next (i + 1)
  going_filled l given t e = rw e (rw t at (going_on l given))

  pub going_unfilled : {after : List ℕ} {filled : Bool} {next : ℕ} → i < size →
      GivenAt table after (place_of to item.space (window.base + (into + i))) (place_of from item.space (item.base + (at + i))) item.mask filled →
      filled ≡ false → next ≡ count → Going start from to hotspot item window order at into size after next (i + 1)
  going_unfilled l given f e = rw e (rw (f, add-zero) at (going_on l given))

  -- once every offset is done
  pub going_ends : size ≤ i → Taken start table (delegations from to hotspot item window) count
  going_ends l =
      let done : i ≡ 2 ^ smaller_order item window = rw (sym g.is_order) (omega arith) in
      running_taken (rw done at g.running)
