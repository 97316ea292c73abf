-- What the examples share: proofs of statements together, and the definitions that several of them compute by.
use Rattle.words.specs.Sizes.{space_of}
use Rattle.descriptor.specs.Descriptors.{well_formed, wrapped, reading, matched}
use Rattle.interface.specs.Basics.{put, any, all_below}
use Rattle.interface.specs.Effects.{chain, ancestors, below, fills, stripped, cut_caps, act, run, fills_one, filled}
use Rattle.interface.specs.Message.{source_domain, delegate_item, first_in, nearest, common, translates, translate_item, item_of, untyped_copied, carried}
use Rattle.interface.specs.Rules.{hypercall, called}

-- two proofs together
infixr 3 ◌and◌
abbrev pub ◌and◌ : {A B : Type 0} → A → B → A × B
a and b = (a, b)

-- to unfold one of these is to unfold what its line names: the reading of descriptors, what steps leave, the order of a call's checks, and what a
-- message's items come to
unfoldable pub descriptors : Unit {0}
unfolding space_of well_formed wrapped reading
descriptors = tt

unfoldable pub steps : Unit {0}
unfolding put any chain ancestors below fills stripped cut_caps act run
steps = tt

unfoldable pub dispatch : Unit {0}
unfolding hypercall called
dispatch = tt

unfoldable pub items : Unit {0}
unfolding all_below matched fills_one filled source_domain delegate_item first_in nearest common translates translate_item item_of untyped_copied carried
items = tt
