-- The search finds the lowest record that breaks the rule.
use mathlib.Core.Path.{refl}
use mathlib.Core.Bool.{Bool, not}
use Prim.Native.Nat.{ℕ}
use borrow.Author.Rules.{rules}
use borrow.Author.Tests.{tests}
use Rattle.words.specs.Sizes.{records}
use Rattle.objects.proofs.WalkLaws.{find_lowest}
use Rattle.record_rules.specs.RecordKeeping.{records_in}
use Rattle.soundness.specs.RuleNumbers.{rule_of}
use Rattle.soundness.proofs.LowestLaws.{found_failing}
use Rattle.soundness.proofs.faults.lowest_record.Goals as goal

pub returns : goal.returns
returns c =
    let keeps : ℕ → Bool = (rule_of c.args.rule).record_keeps_lem (records_in c.args.objects.now) in
    found_failing records keeps _ (find_lowest (λ r. not (keeps r)) _ _ _ _ refl c.find.ensures.ran (λ x b q k. search (rules, tests)))
