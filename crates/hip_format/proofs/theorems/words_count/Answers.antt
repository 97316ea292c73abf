-- The sum is computed word by word.
use mathlib.Core.Path.{refl}
use Rattle.hip_format.specs.Format.{word_sum}
use Rattle.hip_format.proofs.ChecksumLaws.{sum_number}
use Rattle.hip_format.proofs.theorems.words_count.Goals as goal

pub returns : goal.returns
unfolding word_sum
returns c = record { none = refl; one_more = sum_number }
