-- The search finds the lowest place that breaks the rule.
use mathlib.Core.Path.{refl}
use mathlib.Core.Bool.{Bool, not}
use Prim.Native.Nat.{ℕ}
use borrow.Author.Rules.{rules}
use borrow.Author.Tests.{tests}
use Rattle.words.specs.Sizes.{places}
use Rattle.interface.specs.Places.{shown}
use Rattle.objects.proofs.WalkLaws.{find_lowest}
use Rattle.soundness.specs.RuleNumbers.{rule_of}
use Rattle.soundness.proofs.LowestLaws.{found_failing}
use Rattle.soundness.proofs.faults.lowest_place.Goals as goal

pub returns : goal.returns
returns c =
    let keeps : ℕ → Bool = (rule_of c.args.rule).place_keeps_lem (shown (record { places = c.args.table.now; objects = c.args.objects.now })) in
    found_failing places keeps _ (find_lowest (λ p. not (keeps p)) _ _ _ _ refl c.find.ensures.ran (λ x b q k. search (rules, tests)))
