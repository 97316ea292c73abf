-- Laws of translating an item: the nearest ancestor lies in the receiver's domain and in the item's space, and what each way out of the search says of the definition.
use Rattle.std.specs.Prelude.{Option, Some, None, Ok, Err, if◌then◌else◌}
use Prim.Native.Nat.{ℕ, zero, suc, ◌+◌, ◌-◌, ◌*◌, ◌^◌, ◌≤◌, ◌<◌}
use mathlib.Core.Path.{◌≡◌, refl, sym, ◌∙◌}
use mathlib.Core.Bool.{Bool, true, false, not, ◌&&◌, and_assoc}
use mathlib.Core.List.{List, [], ◌∷◌}
use native.Mathlib.Numerals.{add-one}
use native.Mathlib.Omega.{arith}
use lib.Dec.{eqb, leb, ltb}
use lib.Pow.{pow_pos}
use borrow.Author.Tests.{eqb-true, eqb-false, eq-eqb, leb-true, le-leb, ltb-true, lt-ltb, not-true, not-false}
use Rattle.words.specs.Sizes.{domains, object, selectors, stride, places, place_of, domain_of, space_of, selector_of}
use Rattle.words.specs.Permissions.{delegated}
use Rattle.words.specs.Ranges.{aligned}
use Rattle.words.proofs.SizeLaws.{selectors_few}
use Rattle.words.proofs.PlaceLaws.{is_place, space_back, selector_small, made_so}
use Rattle.layout.specs.declared.Place.{Place}
use Rattle.descriptor.specs.declared.Range.{Range}
use Rattle.descriptor.specs.Descriptors.{Received, Proper}
use Rattle.descriptor.specs.declared.Reason.TheVariants.{TranslationBroke}
use Rattle.layout.specs.Numbers.{linked as placeLinked}
use Rattle.layout.proofs.NumberLaws.{linked_out, linked_inside}
use Rattle.interface.specs.Basics.{all_below}
use Rattle.interface.specs.Places.{Cap, cap_at, places_in}
use Rattle.interface.specs.Effects.{chain, ancestors, among}
use Rattle.interface.specs.Message.{nearest, common, inside, sender_place, ancestor_at, translated_base, translates, translate_item}
use Rattle.interface.proofs.Basics.BoolLaws.{cases, not_both, and_left, and_right, both, each_of_four}
use Rattle.interface.proofs.Basics.BelowLaws.{all_below_at, all_below_lem, below_suc}
use Rattle.places.specs.Table.{Sized}
use Rattle.descent.specs.Walks.{Linked, first_among}
use Rattle.descent.proofs.LinkLaws.{nearest_first_among}
use Rattle.windows.specs.Matching.{Matched}
use Rattle.translation.specs.Translating.{lies_there}

-- what a walk finds is among the places it looks for
found_among : (first size : ℕ) (list : List ℕ) (r : ℕ) → first_among first size list ≡ suc r → (first ≤ r) × (r < first + size)
unfolding first_among
found_among first size [] r e = absurd (omega arith)
found_among first size (place ∷ list) r e =
    cases (among first size place)
    (λ (t : among first size place ≡ true).
    let found : place + 1 ≡ suc r = rw t at e in
    let from = leb-true first place (and_left (leb first place) (ltb place (first + size)) t) in
    let to = ltb-true place (first + size) (and_right (leb first place) (ltb place (first + size)) t) in
    (omega arith, omega arith))
    (λ (f : among first size place ≡ false). found_among first size list r (rw f at e))

-- the links keep the space
module _ (caps : ℕ → Cap) (linked : Linked caps) (first size r : ℕ) where
  chain_space : (steps place link : ℕ) → place < places → (caps place).parent ≡ link → first_among first size (chain steps (λ q. (caps q).parent) link) ≡ suc r →
      space_of r ≡ space_of place
  unfolding chain first_among
  chain_space zero place link l e f = absurd (omega arith)
  chain_space (suc steps) place zero l e f = absurd (omega arith)
  chain_space (suc steps) place (suc next) l e f =
      let same = linked.parent_space place next l e in
      let small = linked.parent_place place next l e in
      cases (among first size next)
      (λ (t : among first size next ≡ true).
      let found : next + 1 ≡ suc r = rw t at f in
      let is_next : next ≡ r = omega arith in
      rw (sym is_next) same)
      (λ (g : among first size next ≡ false). chain_space steps next (caps next).parent small refl (rw g at f) ∙ same)

  found_space : (place : ℕ) → place < places → first_among first size (ancestors caps place) ≡ suc r → space_of r ≡ space_of place
  unfolding ancestors
  found_space place l f = chain_space (caps place).depth place (caps place).parent l refl f

-- the nearest ancestor in a domain is a place of the domain and of the same space
nearest_place : (caps : ℕ → Cap) → Linked caps → (domain place r : ℕ) → place < places → nearest caps domain place ≡ suc r →
    (domain_of r ≡ domain) × (space_of r ≡ space_of place)
nearest_place caps linked domain place r l e =
    let found : first_among (domain * stride) stride (ancestors caps place) ≡ suc r = sym (nearest_first_among caps domain place) ∙ e in
    let inside = found_among (domain * stride) stride (ancestors caps place) r found in
    (omega arith, found_space caps linked (domain * stride) stride r place l found)

-- its number is at most that of the places
nearest_small : (caps : ℕ → Cap) (domain place : ℕ) → domain < domains → nearest caps domain place ≤ places
nearest_small caps domain place d = go (nearest caps domain place) refl
  where
    go : (n : ℕ) → nearest caps domain place ≡ n → n ≤ places
    go zero e = omega arith
    go (suc r) e =
        let inside = found_among (domain * stride) stride (ancestors caps place) r (sym (nearest_first_among caps domain place) ∙ e) in
        omega arith

-- what the definition says of the sender's places in turn
module _ (caps : ℕ → Cap) (sender receiver : ℕ) (item window : Range) where
  abbrev base : ℕ
  base = translated_base caps sender receiver item

  abbrev in_place : ℕ → Bool
  in_place i = eqb (ancestor_at caps sender receiver item i) (place_of receiver item.space (base + i) + 1)

  abbrev fitting : Bool
  fitting = aligned item.order base && inside base item.order window

  translates_parts : translates caps sender receiver item window ≡ (all_below (2 ^ item.order) in_place && fitting)
  unfolding translates
  translates_parts = and_assoc (all_below (2 ^ item.order) in_place) (aligned item.order base) (inside base item.order window)

  -- ancestors that stand in a line from an aligned base on, inside the window, are what the definition asks for
  line_stands : ((i : ℕ) → i < 2 ^ item.order → ancestor_at caps sender receiver item i ≡ place_of receiver item.space (base + i) + 1) →
      aligned item.order base ≡ true → window.base ≤ base → base + 2 ^ item.order ≤ window.base + 2 ^ window.order →
      translates caps sender receiver item window ≡ true
  line_stands line a from to =
      translates_parts ∙
      both (all_below (2 ^ item.order) in_place) fitting
      (all_below_lem (2 ^ item.order) in_place
      (λ i l. eq-eqb (ancestor_at caps sender receiver item i) (place_of receiver item.space (base + i) + 1) (line i l)))
      (both (aligned item.order base) (inside base item.order window) a
      (both (leb window.base base) (leb (base + 2 ^ item.order) (window.base + 2 ^ window.order)) (le-leb _ _ from) (le-leb _ _ to)))

  module _ (t : translates caps sender receiver item window ≡ true) where
    stands : (i : ℕ) → i < 2 ^ item.order → ancestor_at caps sender receiver item i ≡ place_of receiver item.space (base + i) + 1
    stands i l =
        eqb-true (ancestor_at caps sender receiver item i) (place_of receiver item.space (base + i) + 1)
        (all_below_at (2 ^ item.order) in_place (and_left (all_below (2 ^ item.order) in_place) fitting (sym translates_parts ∙ t)) i l)

    fits_there : fitting ≡ true
    fits_there = and_right (all_below (2 ^ item.order) in_place) fitting (sym translates_parts ∙ t)

    -- the range that it shows is aligned, and begins and ends inside the window
    pub shown_aligned : aligned item.order (translated_base caps sender receiver item) ≡ true
    shown_aligned = and_left (aligned item.order base) (inside base item.order window) fits_there

    shown_inside : inside base item.order window ≡ true
    shown_inside = and_right (aligned item.order base) (inside base item.order window) fits_there

    shown_begins : window.base ≤ translated_base caps sender receiver item
    shown_begins = leb-true _ _ (and_left (leb window.base base) (leb (base + 2 ^ item.order) (window.base + 2 ^ window.order)) shown_inside)

    pub shown_ends : translated_base caps sender receiver item + 2 ^ item.order ≤ window.base + 2 ^ window.order
    shown_ends = leb-true _ _ (and_right (leb window.base base) (leb (base + 2 ^ item.order) (window.base + 2 ^ window.order)) shown_inside)

  -- an ancestor is the place of its selector
  module _ (linked : Linked caps) (small : sender < domains) (proper : Proper item) where
    ancestor_place : (i r : ℕ) → i < 2 ^ item.order → ancestor_at caps sender receiver item i ≡ suc r → place_of receiver item.space (selector_of r) ≡ r
    ancestor_place i r l e =
        let inside_space : item.base + i < selectors item.space = omega (arith, proper.ends_inside) in
        let there = nearest_place caps linked receiver (sender_place sender item i) r (is_place sender item.space (item.base + i) small proper.space_small inside_space) e in
        let same : space_of r ≡ item.space = there.1 ∙ space_back sender item.space (item.base + i) proper.space_small inside_space in
        rw (sym there.0, sym same) (made_so r)

-- where a search stands: the ancestors of the offsets below the present one lie in a line from the base on, which may begin there and lies inside the window so far, and the mask has
-- what all of their places permit
pub record Searching (table : List ℕ) (sender receiver : ℕ) (item window : Range) (order size base mask i : ℕ) : Type 0 where
  pub sized : Sized table
  pub linked : Linked (cap_at table)
  pub sender_small : sender < domains
  pub receiver_small : receiver < domains
  pub matched : Matched item window
  pub is_order : order ≡ item.order
  pub is_size : size ≡ 2 ^ item.order
  pub inside_range : i ≤ size
  pub base_small : base < selectors object
  pub is_base : 0 < i → base ≡ translated_base (cap_at table) sender receiver item
  pub in_turn_lem : (k : ℕ) → k < i → ancestor_at (cap_at table) sender receiver item k ≡ place_of receiver item.space (translated_base (cap_at table) sender receiver item + k) + 1
  pub may_begin : 0 < i → aligned item.order (translated_base (cap_at table) sender receiver item) ≡ true
  pub begins_inside : 0 < i → window.base ≤ translated_base (cap_at table) sender receiver item
  pub ends_inside : 0 < i → translated_base (cap_at table) sender receiver item + i ≤ window.base + 2 ^ window.order
  pub is_mask : mask ≡ common item.mask i (λ k. cap_at table (sender_place sender item k))

-- before any offset is done, with the numbers as the code makes them
pub search_begins : {table : List ℕ} {sender receiver : ℕ} {item window : Range} {order size base mask : ℕ} →
    Sized table × Linked (cap_at table) × (sender < domains) × (receiver < domains) × Matched item window → order ≡ item.order → size ≡ 2 ^ order →
    (base ≡ item.base + 0) × (base < selectors item.space) → mask ≡ item.mask →
    Searching table sender receiver item window order size base mask 0
unfolding common
search_begins {item = item} pre o z b m =
    record {
      sized = pre.0;
      linked = pre.1;
      sender_small = pre.2;
      receiver_small = pre.3;
      matched = pre.4;
      is_order = o;
      is_size = rw o at z;
      inside_range = omega arith;
      base_small = omega (arith, selectors_few item.space);
      is_base = λ l. absurd (omega arith);
      in_turn_lem = λ k l. absurd (omega arith);
      may_begin = λ l. absurd (omega arith);
      begins_inside = λ l. absurd (omega arith);
      ends_inside = λ l. absurd (omega arith);
      is_mask = m;
    }

module _ {table : List ℕ} {sender receiver : ℕ} {item window : Range} {order size base mask i : ℕ}
    (s : Searching table sender receiver item window order size base mask i) where
  abbrev answer : Received
  answer = (translate_item (places_in table) sender receiver (Ok (item, window))).received

  abbrev shown : ℕ
  shown = translated_base (cap_at table) sender receiver item

  broken : translates (cap_at table) sender receiver item window ≡ false → Err TranslationBroke ≡ answer
  unfolding translate_item
  broken f = rw f

  broken_unless : (translates (cap_at table) sender receiver item window ≡ true → ⊥) → Err TranslationBroke ≡ answer
  broken_unless n =
      cases (translates (cap_at table) sender receiver item window)
      (λ (t : translates (cap_at table) sender receiver item window ≡ true). absurd (n t)) broken

  -- what is found at the present offset
  module _ {place : ℕ} {found : (Option Place)} (l : i < size) (p : place ≡ sender_place sender item i) (f : found ≡ placeLinked (nearest (cap_at table) receiver place)) where
    in_range : i < 2 ^ item.order
    in_range = rw s.is_size at l

    is_ancestor : found ≡ placeLinked (ancestor_at (cap_at table) sender receiver item i)
    is_ancestor = rw p at f

    -- no ancestor
    pub search_none : found ≡ None → Err TranslationBroke ≡ answer
    search_none none =
        let small = nearest_small (cap_at table) receiver (sender_place sender item i) s.receiver_small in
        let no_ancestor = linked_out (ancestor_at (cap_at table) sender receiver item i) (sym is_ancestor ∙ none) small in
        broken_unless (λ y. omega (arith, stands (cap_at table) sender receiver item window y i in_range, no_ancestor))

    -- one, with its selector and the base that the search goes on with
    module _ {above : Place} {selected next : ℕ} (leads : found ≡ Some above) (e : selected ≡ selector_of above.0) (b : next ≡ (if eqb i 0 then selected else base)) where
      is_above : ancestor_at (cap_at table) sender receiver item i ≡ suc above.0
      is_above = omega (arith, (linked_inside (ancestor_at (cap_at table) sender receiver item i) above (sym is_ancestor ∙ leads)).0)

      found_place : place_of receiver item.space selected + 1 ≡ ancestor_at (cap_at table) sender receiver item i
      found_place =
          rw (
            is_above,
            e,
            ancestor_place (cap_at table) sender receiver item window s.linked s.sender_small s.matched.item_proper i above.0 in_range is_above,
          )
          (omega arith)

      next_base : next ≡ shown
      next_base =
          cases (eqb i 0)
          (λ (t : eqb i 0 ≡ true).
          let zero_offset : i ≡ 0 = eqb-true i 0 t in
          let is_selected : next ≡ selected = rw t at b in
          let is_before : above.0 ≡ ancestor_at (cap_at table) sender receiver item i - 1 = omega (arith, is_above) in
          is_selected ∙ e ∙ rw (is_before, zero_offset))
          (λ (g : eqb i 0 ≡ false).
          let is_old : next ≡ base = rw g at b in
          let later = eqb-false i 0 g in
          is_old ∙ s.is_base (omega arith))

      pub next_small : next < selectors object
      next_small =
          let first = ancestor_at (cap_at table) sender receiver item 0 - 1 in
          rw next_base (omega (arith, selector_small first, selectors_few (space_of first)))

      module _ {number start : ℕ} {lies : Bool} (is_number : number ≡ selected) (is_start : start ≡ next) (is_lies : lies ≡ lies_there number start order i window) where
        lies_as_shown : lies ≡ lies_there selected shown item.order i window
        lies_as_shown = is_lies ∙ rw (is_number, is_start, next_base, s.is_order)

        -- it lies elsewhere
        pub search_elsewhere : not lies ≡ true → Err TranslationBroke ≡ answer
        unfolding lies_there
        search_elsewhere o =
            broken_unless
            (λ y.
            let there : selected ≡ shown + i = omega (arith, found_place, stands (cap_at table) sender receiver item window y i in_range) in
            let from : window.base ≤ selected = omega (arith, shown_begins (cap_at table) sender receiver item window y) in
            let to : selected < window.base + 2 ^ window.order = omega (arith, in_range, shown_ends (cap_at table) sender receiver item window y) in
            not_both lies
            (lies_as_shown ∙
            both (eqb selected (shown + i) && aligned item.order shown && leb window.base selected) (ltb selected (window.base + 2 ^ window.order))
            (both (eqb selected (shown + i) && aligned item.order shown) (leb window.base selected)
            (both (eqb selected (shown + i)) (aligned item.order shown) (eq-eqb selected (shown + i) there) (shown_aligned (cap_at table) sender receiver item window y))
            (le-leb _ _ from))
            (lt-ltb _ _ to))
            (not-true lies o))

        -- it lies there
        pub search_on : {cap : Cap} {kept : ℕ} → not lies ≡ false → cap ≡ cap_at table place → kept ≡ delegated mask cap.permissions →
            Searching table sender receiver item window order size next kept (i + 1)
        unfolding lies_there common
        search_on o is_cap m =
            let parts =
            each_of_four (eqb selected (shown + i)) (aligned item.order shown) (leb window.base selected) (ltb selected (window.base + 2 ^ window.order))
            (sym lies_as_shown ∙ not-false lies o) in
            let there = eqb-true selected (shown + i) parts.0 in
            let from = leb-true window.base selected parts.2 in
            let to = ltb-true selected (window.base + 2 ^ window.order) parts.3 in
            record {
              sized = s.sized;
              linked = s.linked;
              sender_small = s.sender_small;
              receiver_small = s.receiver_small;
              matched = s.matched;
              is_order = s.is_order;
              is_size = s.is_size;
              inside_range = omega arith;
              base_small = next_small;
              is_base = λ _. next_base;
              in_turn_lem = λ k b. below_suc k i (omega arith) (s.in_turn_lem k) (λ (same : k ≡ i). rw same (sym found_place ∙ rw there));
              may_begin = λ _. parts.1;
              begins_inside = λ _. cases (eqb i 0) (λ (t : eqb i 0 ≡ true). omega (arith, eqb-true i 0 t)) (λ (g : eqb i 0 ≡ false). s.begins_inside (omega (arith, eqb-false i 0 g)));
              ends_inside = λ _. omega arith;
              is_mask = rw (add-one i, sym s.is_mask, sym p) (rw is_cap at m);
            }

  -- every offset has been done
  pub search_shows : {space : ℕ} {range : Range} → size ≤ i → space ≡ item.space →
      range ≡ record { space = space; base = base; order = order; mask = mask } → Ok range ≡ answer
  unfolding translate_item
  search_shows {space} {range} l is_space is_range =
      let done : i ≡ 2 ^ item.order = omega (arith, s.is_size, s.inside_range) in
      let begun : 0 < i = omega (arith, pow_pos item.order) in
      let t : translates (cap_at table) sender receiver item window ≡ true =
      line_stands (cap_at table) sender receiver item window (λ k b. s.in_turn_lem k (omega arith)) (s.may_begin begun) (s.begins_inside begun)
      (rw done at (s.ends_inside begun)) in
      rw (t, is_range, is_space, s.is_base begun, s.is_order, s.is_mask, done)
