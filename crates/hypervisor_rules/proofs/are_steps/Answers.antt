-- Each word is held against that of the place before it.
use Rattle.std.proofs.Common.{◌≡◌, ℕ, ◌+◌, ◌-◌, ◌*◌, ◌%◌, ◌^◌, ◌∙◌, Bool, arith, rules}
use borrow.Author.Tests.{tests}
use lib.ListN.{take, drop}
use Rattle.std.proofs.lemmas.Iterator.{YieldsList-from_slice, YieldsList-from_zip}
use Rattle.words.specs.Sizes.{place_words}
use Rattle.objects.proofs.WalkLaws.{fold_all, all_pairs}
use Rattle.hypervisor_rules.specs.HypervisorKeeping.{steps, is_step}
use Rattle.hypervisor_rules.proofs.StretchLaws.{step_any, words_step}
use Rattle.hypervisor_rules.proofs.are_steps.Goals as goal

-- whether the second of two words is a step from the first
abbrev steps_up : ℕ × ℕ → Bool
steps_up pair = is_step (pair.0 % 2 ^ 32) pair.1

pub returns : goal.returns
returns c =
    let words = c.args.table.now in
    let start = place_words * c.args.first in
    let next = start + place_words in
    let count = place_words * steps in
    let these = take count (drop start words) in
    let those = take count (drop next words) in
    let width : start + count - start ≡ count = omega arith in
    let next_width : next + count - next ≡ count = omega arith in
    let this_cut : take (start + count - start) (drop start words) ≡ these = rw width in
    let that_cut : take (next + count - next) (drop next words) ≡ those = rw next_width in
    fold_all steps_up _ _ _ _ (YieldsList-from_zip (YieldsList-from_slice these (cc)) (YieldsList-from_slice those (cc))) c.fold.ensures.ran
    (λ a x b q k. search (step_any, rules, tests)) ∙
    all_pairs steps_up words start next count (omega arith) (omega arith) ∙
    words_step words start count (λ i. omega (arith, c.type_inv.table i))
