-- The examples are computed.
use mathlib.Core.Path.{refl}
use Rattle.endian.specs.Numbers.{little, bytes_of, number_at}
use Rattle.endian.specs.Runs.{bytes_of_each, spaced}
use Rattle.hip_format.specs.Format.{memory_bytes, page_with, word_sum, page}
use Rattle.hip_format.specs.Reader.{contents_of, layout_good, types_allowed, judged}
use Rattle.hip_format.specs.Writer.{writing}
use Rattle.hip_format.proofs.theorems.page_examples.Goals as goal

pub returns : goal.returns
unfolding little bytes_of number_at memory_bytes bytes_of_each page_with word_sum page spaced contents_of layout_good types_allowed judged writing
returns c = (refl, (refl, (refl, (refl, (refl, (refl, (refl, (refl, (refl, (refl, (refl, (refl, (refl, (refl, (refl, (refl, (refl, tt)))))))))))))))))
