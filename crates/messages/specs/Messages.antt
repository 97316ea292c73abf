-- Messages of one typed item, as those who send them write them down.
use Rattle.std.specs.Prelude.{ℕ, ◌+◌, ◌^◌, ◌≡◌, List}
use Rattle.words.specs.Sizes.{block_words}
use Rattle.interface.specs.Basics.{listed, put}
use Rattle.interface.specs.Message.{delegate_bit, delegate_window, descriptor_at, hotspot_field, hypervisor_bit, second_at, typed_count, untyped_count}
use Rattle.interface.specs.Verdicts.{Call, CALL}
use Rattle.interface.specs.Outcomes.{call_of}

-- word 0 of a message of one typed item and no untyped word
abbrev pub one_item : ℕ
one_item = 2 ^ 16

-- the second word of an item that is delegated by the caller, and of one that the root has delegated to itself out of the hypervisor's domain
abbrev pub delegate : ℕ
delegate = 1

abbrev pub delegate_from_hypervisor : ℕ
delegate_from_hypervisor = delegate + 2 ^ 11

-- What these words say where the rules read them
pub record ItemWords : Type 0 where
  pub nothing_untyped : untyped_count one_item ≡ 0
  pub one_typed : typed_count one_item ≡ 1
  pub delegates : (delegate_bit delegate ≡ 1) × (delegate_bit delegate_from_hypervisor ≡ 1)
  pub from_caller : hypervisor_bit delegate ≡ 0
  pub from_hypervisor : hypervisor_bit delegate_from_hypervisor ≡ 1
  pub no_hotspot : (hotspot_field delegate ≡ 0) × (hotspot_field delegate_from_hypervisor ≡ 0)

-- the words of a block that has only zeros
abbrev pub zeros : ℕ → ℕ
zeros i = 0

-- the sender's block of such a message: the item's two words stand at the block's end
unfoldable pub item_block : ℕ → ℕ → List ℕ
item_block item second = listed block_words (put (put (put zeros 0 one_item) (descriptor_at 0) item) (second_at 0) second)

-- the receiver's: it accepts what is delegated in a window
unfoldable pub window_block : ℕ → List ℕ
window_block window = listed block_words (put zeros delegate_window window)

-- a CALL with such a message: its caller, the portal, the item, the item's second word and the receiver's window
abbrev pub with_one_item : ℕ → ℕ → ℕ → ℕ → ℕ → Call
with_one_item caller portal item second window = call_of CALL caller portal 0 0 0 0 0 (item_block item second) (window_block window)
