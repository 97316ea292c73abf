-- The three words are stored in a block of zeros.
use mathlib.Core.Path.{refl}
use Rattle.interface.specs.Basics.{listed, put}
use Rattle.messages.specs.Messages.{item_block}
use Rattle.messages.proofs.item_block.Goals as goal

pub returns : goal.returns
unfolding item_block listed put
returns c = refl
