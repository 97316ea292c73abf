-- Each word of the places is held against 0.
use Prim.Native.Nat.{◌+◌, ◌-◌, ◌*◌}
use mathlib.Core.Path.{◌≡◌, ◌∙◌}
use native.Mathlib.Omega.{arith}
use borrow.Author.Rules.{rules}
use borrow.Author.Tests.{tests}
use lib.Dec.{eqb}
use lib.ListN.{take, drop}
use Rattle.std.proofs.lemmas.Iterator.{YieldsList-from_slice}
use Rattle.words.specs.Sizes.{place_words}
use Rattle.objects.proofs.WalkLaws.{fold_all, all_between}
use Rattle.place_rules.proofs.is_blank.Goals as goal

pub overflow_mul-start : goal.overflow_mul-start
overflow_mul-start c = omega arith

pub returns : goal.returns
returns c =
    let words = c.args.table.now in
    let start = place_words * c.args.first in
    let count = place_words * c.args.count in
    let same : start + count - start ≡ count = omega arith in
    fold_all (λ w. eqb w 0) _ _ _ _ (YieldsList-from_slice (take (start + count - start) (drop start words)) c.iter.ensures.rest) c.fold.ensures.ran (λ a x b q k. search (rules, tests)) ∙
    rw same (all_between (λ w. eqb w 0) words start count (omega arith))
