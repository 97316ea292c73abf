-- The range's own parts make its descriptor.
use lib.Pow.{pow_pos}
use Rattle.windows.proofs.WindowLaws.{made_proper}
use Rattle.windows.proofs.word_of.Goals as goal

pub at-requires : goal.at-requires
at-requires c = (c.requires, pow_pos c.args.range.order)

pub of-requires : goal.of-requires
of-requires c = made_proper c.args.range c.requires c.space.ensures c.at.ensures c.order.ensures c.mask.ensures
