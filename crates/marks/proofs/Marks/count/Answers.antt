-- The set bits of the words are the marked places.
use Rattle.std.proofs.Common.{rules}
use mathlib.Core.Path.{◌∙◌}
use Prim.Native.Nat.{◌<◌, ◌^◌}
use lib.Count.{ones_in, ones-le}
use Rattle.marks.specs.PlaceBits.{word_bits}
use native.Mathlib.Omega.{arith}
use Rattle.std.proofs.lemmas.Iterator.{YieldsList-from_slice, YieldsList-from_map}
use Rattle.std.proofs.lemmas.Iterator.Consumers.{sum_by_from_yields_List}
use Rattle.std.proofs.lemmas.Iterator.Adapters.{fits_from_length, at_most_from_yields_List}
use Rattle.marks.proofs.MarkedLaws.{word_ones, all_counted}
use Rattle.marks.proofs.Marks.count.Goals as goal

pub sum-requires-clause-fits : goal.sum-requires-clause-fits
sum-requires-clause-fits c =
    fits_from_length _ _ 96 _ (at_most_from_yields_List (YieldsList-from_slice c.self.inside.words (cc)) (omega (arith, c.self.invariant))) c.map.ensures.closure (omega arith) (λ x r q k. let w : x.now < 2 ^ 32 = search rules in (search rules, omega (arith, ones-le word_bits x.now w)))

pub returns : goal.returns
returns c =
    sum_by_from_yields_List (ones_in word_bits) _ c.map.result _ c.sum.ensures.ran
    (YieldsList-from_map _ (ones_in word_bits) (YieldsList-from_slice c.self.inside.words (cc)) c.map.ensures.closure
    (λ x r q k. (search rules, word_ones (search rules) (search rules)))) ∙
    all_counted c.self.inside.words c.self.invariant ∙ rw c.self.view_is
