-- Each run of the places is asked.
use Prim.Native.Nat.{ℕ, ◌-◌, ◌*◌, ◌/◌}
use mathlib.Core.Path.{refl, ◌∙◌}
use mathlib.Core.Bool.{Bool}
use mathlib.Core.List.{List}
use borrow.Author.Rules.{rules}
use borrow.Author.Tests.{tests}
use Rattle.std.proofs.lemmas.Iterator.{YieldsList-from_range}
use Rattle.std.proofs.lemmas.Iterator.Search.{all_from_yields_List}
use Rattle.words.specs.Sizes.{places}
use Rattle.place_rules.specs.PlaceKeeping.{blank}
use Rattle.place_pass.specs.PassKeeping.{run}
use Rattle.place_pass.proofs.QuickLaws.{runs_decide}
use Rattle.place_pass.proofs.rest_is_blank.Goals as goal

-- whether a run of places is blank
abbrev blank_run : List ℕ → ℕ → Bool
blank_run table k = blank table (run * k) run

pub returns : goal.returns
returns c =
    let table = c.args.table.now in
    let first = c.args.first in
    all_from_yields_List (blank_run table) _ _ c.all.result c.all.ensures.ran
    (YieldsList-from_range (first / run) (places / run) (places / run - first / run) refl refl) (λ x b q k. search (rules, tests)) ∙
    runs_decide table first c.requires.1 c.requires.2
