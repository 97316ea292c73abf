-- The answer is that of each place of domain 0.
use mathlib.Core.Path.{refl, ◌∙◌}
use mathlib.Core.Bool.{◌&&◌}
use Rattle.std.proofs.Common.{rules}
use Rattle.std.proofs.lemmas.Iterator.{YieldsList-from_range}
use Rattle.std.proofs.lemmas.Iterator.Consumers.{fold_from_yields_List}
use Rattle.words.specs.Sizes.{stride}
use Rattle.descent.proofs.FoldLaws.{folded}
use Rattle.repair.specs.Mending.{place_mends}
use Rattle.repair.proofs.hypervisor_mends.Goals as goal

pub returns : goal.returns
returns c =
    let table = c.args.table.now in
    fold_from_yields_List _ (λ mends at. mends && place_mends table at) _ _ c.fold.ensures.ran (YieldsList-from_range 0 stride stride refl refl) (λ a x b q k. search rules)
    ∙ folded (place_mends table) stride
