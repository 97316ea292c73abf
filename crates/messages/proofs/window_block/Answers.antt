-- The window is stored in a block of zeros.
use mathlib.Core.Path.{refl}
use Rattle.interface.specs.Basics.{listed, put}
use Rattle.messages.specs.Messages.{window_block}
use Rattle.messages.proofs.window_block.Goals as goal

pub returns : goal.returns
unfolding window_block listed put
returns c = refl
