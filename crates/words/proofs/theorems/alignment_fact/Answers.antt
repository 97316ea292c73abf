-- The alignment fact is laws of ranges.
use Rattle.words.proofs.RangeLaws as laws
use Rattle.words.proofs.theorems.alignment_fact.Goals as goal

pub returns : goal.returns
returns c = record { aligned_zeros = laws.aligned_zeros; zero_aligned = laws.zero_aligned }
