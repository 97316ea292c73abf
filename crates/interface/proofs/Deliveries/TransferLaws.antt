-- A transfer looks at places alone: whatever the objects are, its items come to the same.
use Rattle.std.specs.Prelude.{Ok, Err}
use Prim.Native.Nat.{ℕ, zero, suc}
use mathlib.Core.Path.{◌≡◌, refl}
use mathlib.Core.List.{List}
use Rattle.descriptor.specs.Descriptors.{Match}
use Rattle.interface.specs.Basics.{word}
use Rattle.interface.specs.Places.{Cap, State}
use Rattle.interface.specs.RangeDescriptors.{reading, matched}
use Rattle.interface.specs.Effects.{Effect, given_caps, act, run, fills_one, filled}
use Rattle.interface.specs.Message.{translate_window, delegate_window, descriptor_at, second_at, delegate_item, translate_item, item_of, carried}
use Rattle.interface.proofs.Sound.MessageFits.{MatchProper, match_proper}
use Rattle.interface.proofs.Deliveries.DelegationLaws.{OnlyGives, gives_none, gives_more, ItemAsks, delegate_gives, item_gives, carried_gives}
use Rattle.descriptor.proofs.DescriptorLaws.{good_proper}

-- a state by its two parts
abbrev pub state_of : (ℕ → Cap) → (ℕ → ℕ → ℕ) → State
state_of caps objects = record { caps = caps; objects = objects }

-- any delegation, and any item that asks for some
abbrev pub AnyGive : ℕ → ℕ → ℕ → Type 0
AnyGive place source mask = Unit {0}

pub any_item : (sender receiver : ℕ) (source target : List ℕ) (i : ℕ) → ItemAsks AnyGive sender receiver source target i
any_item sender receiver source target i item window bit read window_read same place from own inside at to = tt

module _ (objects others : ℕ → ℕ → ℕ) where
  -- delegations do the same to the places, and leave the objects
  pub gives_anywhere : {Ask : ℕ → ℕ → ℕ → Type 0} {effects : List Effect} → OnlyGives Ask effects → (caps : ℕ → Cap) →
      run effects (state_of caps objects) ≡ state_of (run effects (state_of caps others)).caps objects
  unfolding run act
  gives_anywhere gives_none caps = refl
  gives_anywhere (gives_more destination source mask ask more) caps = gives_anywhere more (given_caps caps destination source mask)

  filled_anywhere : {Ask : ℕ → ℕ → ℕ → Type 0} {effects : List Effect} → OnlyGives Ask effects → (caps : ℕ → Cap) →
      filled effects (state_of caps objects) ≡ filled effects (state_of caps others)
  unfolding filled act fills_one
  filled_anywhere gives_none caps = refl
  filled_anywhere (gives_more destination source mask ask more) caps = rw (filled_anywhere more (given_caps caps destination source mask))

  -- so does an item
  delegated_anywhere : (caps : ℕ → Cap) (sender receiver second : ℕ) (match : Match) → MatchProper match →
      delegate_item (state_of caps objects) sender receiver second match ≡ delegate_item (state_of caps others) sender receiver second match
  unfolding delegate_item
  delegated_anywhere caps sender receiver second (Err reason) p = refl
  delegated_anywhere caps sender receiver second (Ok (item, window)) p =
      rw (filled_anywhere (delegate_gives AnyGive (state_of caps objects) sender receiver second item window p (λ place source own from at to. tt)) caps)

  translated_anywhere : (caps : ℕ → Cap) (sender receiver : ℕ) (match : Match) →
      translate_item (state_of caps objects) sender receiver match ≡ translate_item (state_of caps others) sender receiver match
  unfolding translate_item
  translated_anywhere caps sender receiver (Err reason) = refl
  translated_anywhere caps sender receiver (Ok (item, window)) = refl

  item_anywhere : (caps : ℕ → Cap) (sender receiver : ℕ) (source target : List ℕ) (i : ℕ) →
      item_of (state_of caps objects) sender receiver source target i ≡ item_of (state_of caps others) sender receiver source target i
  unfolding item_of
  item_anywhere caps sender receiver source target i =
      let from = word source (descriptor_at i) in
      let second = word source (second_at i) in
      let proper = match_proper (reading from) (reading (word target delegate_window)) (good_proper from) (good_proper (word target delegate_window)) in
      rw (
        delegated_anywhere caps sender receiver second (matched (reading from) (reading (word target delegate_window))) proper,
        translated_anywhere caps sender receiver (matched (reading from) (reading (word target translate_window))),
      )

-- and so does a whole message
pub carried_anywhere : (objects others : ℕ → ℕ → ℕ) (caps : ℕ → Cap) (sender receiver : ℕ) (source target : List ℕ) (n : ℕ) →
    carried (state_of caps objects) sender receiver source target n ≡ carried (state_of caps others) sender receiver source target n
unfolding carried
carried_anywhere objects others caps sender receiver source target zero = refl
carried_anywhere objects others caps sender receiver source target (suc i) =
    let before = carried (state_of caps others) sender receiver source target i in
    let steps = carried_gives AnyGive (state_of caps others) sender receiver source target i (λ j l. any_item sender receiver source target j) in
    let same = carried_anywhere objects others caps sender receiver source target i in
    let left = (run before.effects (state_of caps others)).caps in
    let here : run before.effects (state_of caps objects) ≡ state_of left objects = gives_anywhere objects others steps caps in
    let there : run before.effects (state_of caps others) ≡ state_of left others = gives_anywhere others others steps caps in
    rw (
      same,
      here,
      there,
      item_anywhere objects others left sender receiver source target i,
      filled_anywhere objects others (item_gives AnyGive (state_of left others) sender receiver source target i (any_item sender receiver source target i)) left,
    )
