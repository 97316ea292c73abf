-- The answer is that of each place of the word.
use mathlib.Core.Path.{refl, ◌∙◌}
use lib.Dec.{eqb}
use Prim.Native.Nat.{◌+◌}
use mathlib.Core.Bool.{◌&&◌}
use Rattle.std.proofs.Common.{rules}
use Rattle.std.proofs.lemmas.Iterator.{YieldsList-from_range}
use Rattle.std.proofs.lemmas.Iterator.Consumers.{fold_from_yields_List}
use Rattle.interface.specs.Places.{cap_at}
use Rattle.marks.specs.PlaceBits.{word_bits}
use Rattle.descent.specs.Walks.{parentless_from}
use Rattle.descent.proofs.FoldLaws.{folded}
use Rattle.descent.proofs.are_parentless.Goals as goal

pub returns : goal.returns
unfolding parentless_from
returns c =
    let table = c.args.table.now in
    let from = c.args.from.0 in
    fold_from_yields_List _ (λ holds i. holds && eqb (cap_at table (from + i)).parent 0) _ _ c.fold.ensures.ran (YieldsList-from_range 0 word_bits word_bits refl refl) (λ a x b q k. search rules)
    ∙ folded (λ i. eqb (cap_at table (from + i)).parent 0) word_bits
