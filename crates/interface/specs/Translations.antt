-- What a translation shows: for each place of the sender's range its nearest strict ancestor in the receiver's domain, in one range of the receiver's.
use Rattle.std.specs.Prelude.{Ok, Err, ℕ, ◌+◌, ◌%◌, ◌^◌, ◌≤◌, ◌<◌, ◌≡◌, ◌↔◌, true, []}
use Rattle.words.specs.Sizes.{domains, place_of, domain_of, selector_of}
use Rattle.words.specs.Permissions.{permits}
use Rattle.descriptor.specs.Descriptors.{Proper}
use Rattle.descriptor.specs.declared.Range.{Range}
use Rattle.descriptor.specs.declared.Reason.{Reason}
use Rattle.descriptor.specs.declared.Reason.TheVariants.{TranslationBroke}
use Rattle.interface.specs.Places.{Cap, State, live}
use Rattle.interface.specs.Damage.{sound_state}
use Rattle.interface.specs.Message.{Item, translate_item}

-- one place is the parent of another: both are live, the child's parent word is the parent's number plus 1, and its depth is one more
pub record IsParent (caps : ℕ → Cap) (place parent : ℕ) : Type 0 where
  pub place_live : live (caps place) ≡ true
  pub parent_live : live (caps parent) ≡ true
  pub linked : (caps place).parent ≡ parent + 1
  pub depth_falls : (caps place).depth ≡ (caps parent).depth + 1

-- an ancestor is the nearest one of a place in a domain: the place's parent if that lies in the domain; otherwise the nearest one of the parent
pub data NearestIn (caps : ℕ → Cap) (domain ancestor : ℕ) : ℕ → Type 0 where
  parent_itself : {place : ℕ} → IsParent caps place ancestor → domain_of ancestor ≡ domain → NearestIn caps domain ancestor place
  parent_passed : {place parent : ℕ} → IsParent caps place parent → (domain_of parent ≡ domain → ⊥) → NearestIn caps domain ancestor parent →
      NearestIn caps domain ancestor place

-- the place of a domain at an offset of a range
abbrev pub place_at : ℕ → Range → ℕ → ℕ
place_at domain range offset = place_of domain range.space (range.base + offset)

module _ (s : State) (sender receiver : ℕ) (item window : Range) where
  -- the range that a translation shows: the item's space and order; a base that is aligned, inside the window; at each offset the nearest ancestor of the sender's place; and the
  -- mask bits that the item has and every sender's place has
  pub record ShownFor (range : Range) : Type 0 where
    pub same_space : range.space ≡ item.space
    pub same_order : range.order ≡ item.order
    pub base_aligned : range.base % 2 ^ item.order ≡ 0
    pub from_window : window.base ≤ range.base
    pub to_window : range.base + 2 ^ item.order ≤ window.base + 2 ^ window.order
    pub each_nearest : (offset : ℕ) → offset < 2 ^ item.order → NearestIn s.caps receiver (place_at receiver range offset) (place_at sender item offset)
    pub mask_common : (bit : ℕ) →
        (permits bit range.mask ≡ true) ↔
        ((permits bit item.mask ≡ true) × ((offset : ℕ) → offset < 2 ^ item.order → permits bit (s.caps (place_at sender item offset)).permissions ≡ true))

  -- what breaks a translation: a place without an ancestor in the receiver's domain; or the first place has its nearest one, whose selector is R, and some place's does not lie at
  -- R plus its offset, or R is not aligned, or the range from R on starts before the window, or ends after it
  pub data Breaks : Type 0 where
    no_ancestor : (offset : ℕ) → offset < 2 ^ item.order → ((ancestor : ℕ) → NearestIn s.caps receiver ancestor (place_at sender item offset) → ⊥) → Breaks
    elsewhere : (first ancestor offset : ℕ) → offset < 2 ^ item.order → NearestIn s.caps receiver first (place_at sender item 0) →
        NearestIn s.caps receiver ancestor (place_at sender item offset) → (ancestor ≡ place_of receiver item.space (selector_of first + offset) → ⊥) → Breaks
    unaligned : (first : ℕ) → NearestIn s.caps receiver first (place_at sender item 0) → (selector_of first % 2 ^ item.order ≡ 0 → ⊥) → Breaks
    before_window : (first : ℕ) → NearestIn s.caps receiver first (place_at sender item 0) → selector_of first < window.base → Breaks
    past_window : (first : ℕ) → NearestIn s.caps receiver first (place_at sender item 0) → window.base + 2 ^ window.order < selector_of first + 2 ^ item.order → Breaks

  -- what holds of a translation's outcome: it changes nothing; the range that it shows is as above; and it is null, for the reason that the search broke, exactly where something
  -- breaks it
  pub record Translated (outcome : Item) : Type 0 where
    pub no_steps : outcome.effects ≡ []
    pub shows_so : (range : Range) → outcome.received ≡ Ok range → ShownFor range
    pub null_so : (outcome.received ≡ Err TranslationBroke) ↔ Breaks
    pub one_reason : (reason : Reason) → outcome.received ≡ Err reason → reason ≡ TranslationBroke

-- Translation is exact, on every sound state, for any item that is a proper range and for any window, from any domain to any domain, also to the same one
abbrev pub TranslatesExactly : Type 0
TranslatesExactly =
    (s : State) (sender receiver : ℕ) (item window : Range) → sound_state s ≡ true → sender < domains → Proper item →
    Translated s sender receiver item window (translate_item s sender receiver (Ok (item, window)))
