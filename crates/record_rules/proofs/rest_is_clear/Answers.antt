-- Each word from the record on is held against 0.
use Prim.Native.Nat.{◌*◌, ◌-◌}
use mathlib.Core.Path.{◌≡◌, ◌∙◌}
use native.Mathlib.Omega.{arith}
use borrow.Author.Rules.{rules}
use borrow.Author.Tests.{tests}
use lib.Dec.{eqb}
use lib.ListN.{length, take, drop, length-drop}
use Rattle.std.proofs.lemmas.List.{take_all}
use Rattle.std.proofs.lemmas.Iterator.{YieldsList-from_slice}
use Rattle.words.specs.Sizes.{record_words}
use Rattle.record_rules.specs.RecordKeeping.{rest_clear}
use Rattle.objects.proofs.WalkLaws.{fold_all}
use Rattle.record_rules.proofs.TailLaws.{from_list}
use Rattle.record_rules.proofs.rest_is_clear.Goals as goal

pub returns : goal.returns
unfolding rest_clear
returns c =
    let words = c.args.objects.now in
    let first = record_words * c.args.number in
    let long : length (drop first words) ≡ length words - first = length-drop first words in
    let whole : take (length words - first) (drop first words) ≡ drop first words = take_all (length words - first) (drop first words) (omega arith) in
    fold_all (λ w. eqb w 0) _ _ _ _ (YieldsList-from_slice (drop first words) (c.iter.ensures.rest ∙ whole)) c.fold.ensures.ran (λ a x b q k. search (rules, tests)) ∙
    rw (c.requires.0) at (from_list words first (λ w. eqb w 0) (omega arith))
