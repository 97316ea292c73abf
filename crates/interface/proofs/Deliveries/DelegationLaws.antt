-- Delegations: they leave live places and fill null ones with what their sources have; and a message's steps are delegations that its items ask for.
use Rattle.std.specs.Prelude.{Ok, Err}
use Prim.Native.Nat.{ℕ, zero, suc, ◌+◌, ◌^◌, ◌≤◌, ◌<◌}
use mathlib.Core.Path.{◌≡◌, refl, sym, ap, ◌∙◌, subst}
use mathlib.Core.Bool.{true, false}
use mathlib.Core.Logic.{inl, inr, ⊎_elim}
use mathlib.Core.List.{List, [], ◌∷◌, ◌++◌}
use native.Mathlib.Omega.{arith}
use lib.Dec.{eqb}
use lib.ListN.{drop}
use borrow.Author.Tests.{eqb-true, eqb-false}
use Rattle.words.specs.Sizes.{selectors, domain_of, place_of}
use Rattle.words.proofs.BitLaws.{delegated_within_source, delegated_within_mask}
use Rattle.words.proofs.PlaceLaws.{domain_back, space_back, selector_back}
use Rattle.words.proofs.RangeLaws.{starts_inside, ends_inside}
use Rattle.descriptor.specs.Descriptors.{Proper, Match}
use Rattle.descriptor.specs.declared.Range.{Range}
use Rattle.descriptor.specs.declared.Reading.{Reading}
use Rattle.descriptor.specs.declared.Reading.TheVariants.{Good}
use Rattle.descriptor.proofs.DescriptorLaws.{good_proper}
use Rattle.interface.specs.Basics.{word, listed}
use Rattle.interface.specs.Places.{Cap, State, live}
use Rattle.interface.specs.Boot.{hypervisor, root}
use Rattle.interface.specs.RangeDescriptors.{reading, matched}
use Rattle.interface.specs.Effects.{Effect, give, fills, handed, act, run}
use Rattle.interface.specs.Message.{translate_window, delegate_window, descriptor_at, second_at, delegate_bit, hypervisor_bit, hotspot_field, source_domain, smaller_order, raised_base, delegate_item, translate_item, item_of, carried}
use Rattle.interface.specs.Consequences.{Delegates, this_one, later_one, GivenFrom, OwnSource, LiesIn}
use Rattle.interface.proofs.Basics.BoolLaws.{cases, not_both}
use Rattle.interface.proofs.Basics.PutLaws.{put_same}
use Rattle.interface.proofs.Tables.TurnLaws.{give_others, gives}
use Rattle.interface.proofs.Sound.MessageFits.{MatchProper, match_proper, MatchRead, match_read, source_either}
use Rattle.interface.proofs.History.NoteLaws.{fills_source, fills_null}

-- One delegation.

module _ (destination source mask : ℕ) (s : State) where
  -- a live place stays as it is
  give_keeps : (place : ℕ) → live (s.caps place) ≡ true → (act (give destination source mask) s).caps place ≡ s.caps place
  unfolding act
  give_keeps place t =
      cases (fills s.caps destination source mask)
      (λ (f : fills s.caps destination source mask ≡ true).
      give_others destination source mask s place
      (λ e. not_both (live (s.caps place)) t (rw e (fills_null s.caps destination source mask f))))
      (λ (f : fills s.caps destination source mask ≡ false). rw f)

  -- a null place that is live afterwards is the destination, which was filled
  newly_live : (place : ℕ) → live (s.caps place) ≡ false → live ((act (give destination source mask) s).caps place) ≡ true →
      (destination ≡ place) × (fills s.caps destination source mask ≡ true)
  unfolding act
  newly_live place n t = (
    cases (eqb destination place) (λ (e : eqb destination place ≡ true). eqb-true destination place e)
        (λ (f : eqb destination place ≡ false).
        not_both (live (s.caps place))
        (rw (give_others destination source mask s place (λ e. eqb-false destination place f (sym e))) at t) n),
    cases (fills s.caps destination source mask) (λ (f : fills s.caps destination source mask ≡ true). f)
        (λ (f : fills s.caps destination source mask ≡ false). not_both (live (s.caps place)) (rw f at t) n),
  )

  -- a filled destination shows what its source hands it
  pub give_hands : fills s.caps destination source mask ≡ true →
      (act (give destination source mask) s).caps destination ≡ handed (s.caps source) source mask
  unfolding act
  give_hands f = rw (f, put_same s.caps destination (handed (s.caps source) source mask))

-- a place that a source handed a capability to is given from it
handed_given : (s : State) (place source mask : ℕ) → live (s.caps source) ≡ true → s.caps place ≡ handed (s.caps source) source mask →
    GivenFrom s place source mask
handed_given s place source mask t e =
    record {
      source_live = t;
      same_resource = ap (λ (cap : Cap). cap.resource) e;
      is_child = ap (λ (cap : Cap). cap.parent) e;
      within_source = rw e (delegated_within_source (s.caps source).permissions mask);
      within_mask = rw e (delegated_within_mask (s.caps source).permissions mask);
      deeper = ap (λ (cap : Cap). cap.depth) e;
    }

-- it is still given so where neither it nor its source has changed
pub given_still : (s later : State) (place source mask : ℕ) → later.caps place ≡ s.caps place → later.caps source ≡ s.caps source →
    GivenFrom s place source mask → GivenFrom later place source mask
given_still s later place source mask same same_source given =
    record {
      source_live = rw same_source given.source_live;
      same_resource = rw (same, same_source) given.same_resource;
      is_child = rw same given.is_child;
      within_source = rw (same, same_source) given.within_source;
      within_mask = rw same given.within_mask;
      deeper = rw (same, same_source) given.deeper;
    }

-- Delegations in turn.

-- steps that are all delegations, each of them asked for
pub data OnlyGives (Ask : ℕ → ℕ → ℕ → Type 0) : List Effect → Type 0 where
  gives_none : OnlyGives Ask []
  gives_more : (destination source mask : ℕ) {effects : List Effect} → Ask destination source mask → OnlyGives Ask effects →
      OnlyGives Ask (give destination source mask ∷ effects)

-- they leave each live place
pub gives_keep : {Ask : ℕ → ℕ → ℕ → Type 0} {effects : List Effect} → OnlyGives Ask effects → (s : State) (place : ℕ) → live (s.caps place) ≡ true →
    (run effects s).caps place ≡ s.caps place
unfolding run
gives_keep gives_none s place t = refl
gives_keep (gives_more destination source mask ask others) s place t =
    let kept = give_keeps destination source mask s place t in
    gives_keep others (act (give destination source mask) s) place (rw kept t) ∙ kept

-- a null place that is live after them was filled by one of them, and neither it nor its source has changed since
pub gives_filled : {Ask : ℕ → ℕ → ℕ → Type 0} {effects : List Effect} → OnlyGives Ask effects → (s : State) (place : ℕ) → live (s.caps place) ≡ false →
    live ((run effects s).caps place) ≡ true →
    (source : ℕ) × (mask : ℕ) × Delegates place source mask effects × Ask place source mask × GivenFrom (run effects s) place source mask
unfolding run
gives_filled gives_none s place n t = not_both (live (s.caps place)) t n
gives_filled {Ask} (gives_more destination source mask {effects} ask others) s place n t =
    let next = act (give destination source mask) s in
    cases (live (next.caps place))
    (λ (now : live (next.caps place) ≡ true).
    let it = newly_live destination source mask s place n now in
    let alive = fills_source s.caps destination source mask it.1 in
    let kept = give_keeps destination source mask s source alive in
    let Source_stays = gives_keep others next source (rw kept alive) ∙ kept in (
      source,
      mask,
      rw it.0 this_one,
      subst (λ (filled_place : ℕ). Ask filled_place source mask) it.0 ask,
      handed_given (run effects next) place source mask (rw Source_stays alive)
          (gives_keep others next place now ∙ ap next.caps (sym it.0) ∙ give_hands destination source mask s it.1 ∙
          ap (λ (cap : Cap). handed cap source mask) (sym Source_stays)),
    ))
    (λ (later : live (next.caps place) ≡ false).
    let (from, with_mask, step, asked, given) = gives_filled others next place later t in
    (from, with_mask, later_one step, asked, given))

-- delegations after delegations, those without the first ones, and one for each number below one
gives_append : {Ask : ℕ → ℕ → ℕ → Type 0} {xs ys : List Effect} → OnlyGives Ask xs → OnlyGives Ask ys → OnlyGives Ask (xs ++ ys)
gives_append gives_none more = more
gives_append (gives_more destination source mask ask others) more = gives_more destination source mask ask (gives_append others more)

pub gives_drop : {Ask : ℕ → ℕ → ℕ → Type 0} {effects : List Effect} → OnlyGives Ask effects → (n : ℕ) → OnlyGives Ask (drop n effects)
gives_drop gives_none zero = gives_none
gives_drop gives_none (suc n) = gives_none
gives_drop (gives_more destination source mask ask others) zero = gives_more destination source mask ask others
gives_drop (gives_more destination source mask ask others) (suc n) = gives_drop others n

pub listed_gives : (Ask : ℕ → ℕ → ℕ → Type 0) (n : ℕ) (destination source mask : ℕ → ℕ) → ((i : ℕ) → i < n → Ask (destination i) (source i) (mask i)) →
    OnlyGives Ask (gives destination source mask n)
unfolding listed
listed_gives Ask zero destination source mask ask = gives_none
listed_gives Ask (suc n) destination source mask ask =
    gives_append (listed_gives Ask n destination source mask (λ i l. ask i (omega arith)))
    (gives_more (destination n) (source n) (mask n) (ask n (omega arith)) gives_none)

-- CALL's steps.

-- a selector of a range makes a place that lies in it, in each domain
pub selected_inside : (domain : ℕ) (range : Range) (selector : ℕ) → Proper range → range.base ≤ selector → selector < range.base + 2 ^ range.order →
    LiesIn range (place_of domain range.space selector) × (domain_of (place_of domain range.space selector) ≡ domain)
selected_inside domain range selector proper low high =
    let small : selector < selectors range.space = omega (arith, proper.ends_inside) in
    let back = selector_back domain range.space selector proper.space_small small in (
      record {
        of_space = space_back domain range.space selector proper.space_small small;
        from_base = rw back low;
        before_end = rw back high;
      },
      domain_back domain range.space selector proper.space_small small,
    )

-- a place of the source's domain is one that the sender may delegate from
source_own : (sender second source : ℕ) → domain_of source ≡ source_domain sender second → OwnSource sender second source
source_own sender second source e =
    ⊎_elim (λ (own : source_domain sender second ≡ sender). inl (e ∙ own))
    (λ (zeroth : (hypervisor_bit second ≡ 1) × (sender ≡ root) × (source_domain sender second ≡ hypervisor)). inr (zeroth.0, zeroth.1, e ∙ zeroth.2))
    (source_either sender second)

-- what is asked for by a range that is delegated to a window: each of the sender's places in the range may go to each of the receiver's in the window, with the range's mask
abbrev pub RangeAsks : (ℕ → ℕ → ℕ → Type 0) → (sender receiver second : ℕ) (item window : Range) → Type 0
RangeAsks Ask sender receiver second item window =
    (place source : ℕ) → OwnSource sender second source → LiesIn item source → domain_of place ≡ receiver → LiesIn window place → Ask place source item.mask

-- an item's steps are delegations that it asks for
pub delegate_gives : (Ask : ℕ → ℕ → ℕ → Type 0) (s : State) (sender receiver second : ℕ) (item window : Range) → MatchProper (Ok (item, window)) →
    RangeAsks Ask sender receiver second item window → OnlyGives Ask (delegate_item s sender receiver second (Ok (item, window))).effects
unfolding delegate_item
delegate_gives Ask s sender receiver second item window p asks =
    let from = source_domain sender second in
    let o = smaller_order item window in
    let hotspot = hotspot_field second in
    let item_base = raised_base item o hotspot in
    let window_base = raised_base window o hotspot in
    let item_starts = starts_inside item.order o hotspot item.base in
    let item_ends = ends_inside item.order o hotspot item.base (omega arith) in
    let window_starts = starts_inside window.order o hotspot window.base in
    let window_ends = ends_inside window.order o hotspot window.base (omega arith) in
    listed_gives Ask (2 ^ o) (λ i. place_of receiver item.space (window_base + i)) (λ i. place_of from item.space (item_base + i)) _
    (λ i b.
    let source_in = selected_inside from item (item_base + i) p.0 (omega arith) (omega arith) in
    let IsPlace_in = selected_inside receiver window (window_base + i) p.1 (omega arith) (omega arith) in
    subst (λ (space : ℕ). Ask (place_of receiver space (window_base + i)) (place_of from item.space (item_base + i)) item.mask) (sym p.2)
    (asks (place_of receiver window.space (window_base + i)) (place_of from item.space (item_base + i))
    (source_own sender second (place_of from item.space (item_base + i)) source_in.1) source_in.0 IsPlace_in.1 IsPlace_in.0))

-- and none where it is not matched with its window
matched_gives : (Ask : ℕ → ℕ → ℕ → Type 0) (s : State) (sender receiver second : ℕ) (read window_read : Reading) (match : Match) → MatchProper match →
    MatchRead read window_read match →
    ((item window : Range) → read ≡ Good item → window_read ≡ Good window → item.space ≡ window.space → RangeAsks Ask sender receiver second item window) →
    OnlyGives Ask (delegate_item s sender receiver second match).effects
unfolding delegate_item
matched_gives Ask s sender receiver second read window_read (Err reason) p r asks = gives_none
matched_gives Ask s sender receiver second read window_read (Ok (item, window)) p r asks =
    delegate_gives Ask s sender receiver second item window p (asks item window r.0 r.1 p.2)

translate_gives : (Ask : ℕ → ℕ → ℕ → Type 0) (s : State) (sender receiver : ℕ) (match : Match) → OnlyGives Ask (translate_item s sender receiver match).effects
unfolding translate_item
translate_gives Ask s sender receiver (Err reason) = gives_none
translate_gives Ask s sender receiver (Ok (item, window)) = gives_none

-- what an item of a message asks for: where it sets the delegate bit, its range to the receiver's window
abbrev pub ItemAsks : (ℕ → ℕ → ℕ → Type 0) → (sender receiver : ℕ) (source target : List ℕ) (i : ℕ) → Type 0
ItemAsks Ask sender receiver source target i =
    (item window : Range) → delegate_bit (word source (second_at i)) ≡ 1 → reading (word source (descriptor_at i)) ≡ Good item →
    reading (word target delegate_window) ≡ Good window → item.space ≡ window.space → RangeAsks Ask sender receiver (word source (second_at i)) item window

pub item_gives : (Ask : ℕ → ℕ → ℕ → Type 0) (s : State) (sender receiver : ℕ) (source target : List ℕ) (i : ℕ) →
    ItemAsks Ask sender receiver source target i → OnlyGives Ask (item_of s sender receiver source target i).effects
unfolding item_of
item_gives Ask s sender receiver source target i asks =
    let second = word source (second_at i) in
    let from = word source (descriptor_at i) in
    let to = word target delegate_window in
    cases (eqb (delegate_bit second) 1)
    (λ (t : eqb (delegate_bit second) 1 ≡ true).
    rw t
    (matched_gives Ask s sender receiver second (reading from) (reading to) (matched (reading from) (reading to))
    (match_proper (reading from) (reading to) (good_proper from) (good_proper to)) (match_read (reading from) (reading to))
    (λ item window. asks item window (eqb-true (delegate_bit second) 1 t))))
    (λ (f : eqb (delegate_bit second) 1 ≡ false).
    rw f (translate_gives Ask s sender receiver (matched (reading from) (reading (word target translate_window)))))

-- and what the first items of one ask for
pub carried_gives : (Ask : ℕ → ℕ → ℕ → Type 0) (s : State) (sender receiver : ℕ) (source target : List ℕ) (n : ℕ) →
    ((i : ℕ) → i < n → ItemAsks Ask sender receiver source target i) → OnlyGives Ask (carried s sender receiver source target n).effects
unfolding carried
carried_gives Ask s sender receiver source target zero asks = gives_none
carried_gives Ask s sender receiver source target (suc i) asks =
    gives_append (carried_gives Ask s sender receiver source target i (λ j l. asks j (omega arith)))
    (item_gives Ask (run (carried s sender receiver source target i).effects s) sender receiver source target i (asks i (omega arith)))
