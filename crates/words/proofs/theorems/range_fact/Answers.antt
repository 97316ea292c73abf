-- The range fact is a law of ranges.
use Rattle.words.specs.Sizes.{greatest_order}
use Rattle.words.proofs.RangeLaws as laws
use Rattle.words.proofs.theorems.range_fact.Goals as goal

pub returns : goal.returns
returns c = record { stays_inside = laws.stays_inside; stays_in_space = λ space. laws.stays_inside (greatest_order space) }
