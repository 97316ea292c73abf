-- The items' transfer over the upper words, put back above the lower ones, is the message's.
use mathlib.Core.Path.{refl}
use Rattle.transfer.proofs.MovedLaws.{upper_begins, items_ready, message_done}
use Rattle.transfer.proofs.message.Goals as goal

pub slice_bounds-items-count : goal.slice_bounds-items-count
slice_bounds-items-count c = upper_begins c.requires.4 c.copy_untyped.ensures c.untyped_count.ensures refl

pub slice_bounds-items-start : goal.slice_bounds-items-start
slice_bounds-items-start c = upper_begins c.requires.4 c.copy_untyped.ensures c.untyped_count.ensures refl

pub items-requires : goal.items-requires
items-requires c = (
  c.requires.0,
  c.requires.1,
  items_ready c.requires.4 c.copy_untyped.ensures c.untyped_count.ensures c.typed_count-typed.ensures c.requires.2 c.requires.3
      c.read-translating.ensures c.read-delegating.ensures,
)

pub returns : goal.returns
returns c = message_done c.requires.4 c.copy_untyped.ensures c.untyped_count.ensures c.typed_count-typed.ensures c.args.sender c.args.receiver
    c.read-translating.ensures c.read-delegating.ensures c.items.ensures
