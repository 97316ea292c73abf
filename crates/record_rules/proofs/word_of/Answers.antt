-- The record is the one counted to.
use Rattle.record_rules.proofs.word_of.Goals as goal

pub returns : goal.returns
returns c = rw c.counted.ensures at c.load.ensures
