-- The measure is the place's depth: a walk ends at a place without a parent, and goes on from a parent, whose depth is one less.
use Rattle.interface.specs.Places.{cap_at}
use Rattle.descent.proofs.+ancestor_word.Given as goal

abbrev pub decreases-ancestor_word : goal.decreases-ancestor_word
decreases-ancestor_word l = (cap_at l.table.now l.place.0).depth
