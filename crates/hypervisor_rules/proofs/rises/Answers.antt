-- The looks one after the other, and then the last.
use Rattle.std.proofs.Common.{ℕ, ◌+◌, ◌-◌, ◌*◌, ◌/◌, ◌∙◌, Bool, List, refl, arith, rules}
use borrow.Author.Tests.{tests}
use Rattle.std.proofs.lemmas.Iterator.{YieldsList-from_range}
use Rattle.std.proofs.lemmas.Iterator.Search.{all_from_yields_List}
use Rattle.objects.proofs.WalkLaws.{all_numbers}
use Rattle.hypervisor_rules.specs.HypervisorKeeping.{steps, rising}
use Rattle.hypervisor_rules.proofs.StretchLaws.{looks_broken, looks_done}
use Rattle.hypervisor_rules.proofs.rises.Goals as goal

-- whether each word of the places of a look is a step
abbrev look : List ℕ → ℕ → ℕ → Bool
look table first k = rising table (first + steps * k) steps

pub returns-then-all : goal.returns-then-all
returns-then-all c =
    let given = c.args in
    let table = given.table.now in
    let n = (given.last - given.first - 1) / steps in
    let looked = all_from_yields_List (look table given.first) _ _ c.all.result c.all.ensures.ran (YieldsList-from_range 0 n n refl (omega arith)) (λ x b q k. search (rules, tests)) ∙
    all_numbers (look table given.first) n in
    looks_done table given.first given.last n _ _ (omega arith) (omega arith) looked c.if-all.true c.are_steps.ensures

pub returns-else-all : goal.returns-else-all
returns-else-all c =
    let given = c.args in
    let table = given.table.now in
    let n = (given.last - given.first - 1) / steps in
    let looked = all_from_yields_List (look table given.first) _ _ c.all.result c.all.ensures.ran (YieldsList-from_range 0 n n refl (omega arith)) (λ x b q k. search (rules, tests)) ∙
    all_numbers (look table given.first) n in
    looks_broken table given.first given.last n _ (omega arith) looked c.if-all.false
