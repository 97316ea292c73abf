-- Each word from the index on is held against 0.
use lib.Dec.{eqb}
use mathlib.Core.Path.{refl, ◌∙◌}
use borrow.Author.Rules.{rules}
use borrow.Author.Tests.{tests}
use Rattle.std.proofs.lemmas.Iterator.{YieldsList-from_range}
use Rattle.words.specs.Sizes.{record_words}
use Rattle.interface.specs.Places.{object_at}
use Rattle.record_rules.specs.RecordKeeping.{clear_from}
use Rattle.objects.proofs.WalkLaws.{fold_all}
use Rattle.record_rules.proofs.TailLaws.{from_range}
use Rattle.record_rules.proofs.is_clear_from.Goals as goal

pub returns : goal.returns
unfolding clear_from
returns c =
    let given = c.args in
    fold_all (λ k. eqb (object_at given.objects.now given.number k) 0) _ _ _ _ (YieldsList-from_range given.index record_words _ refl refl) c.fold.ensures.ran
    (λ a x b q k. search (rules, tests)) ∙
    from_range record_words given.index (λ k. eqb (object_at given.objects.now given.number k) 0) c.requires.2
