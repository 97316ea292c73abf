-- Each idle SC's place is asked.
use Rattle.std.proofs.Common.{ℕ, ◌+◌, ◌∙◌, Bool, refl, rules}
use borrow.Author.Tests.{tests}
use Rattle.std.proofs.lemmas.Iterator.{YieldsList-from_range}
use Rattle.std.proofs.lemmas.Iterator.Search.{all_from_yields_List}
use Rattle.words.specs.Sizes.{object, start}
use Rattle.interface.specs.Places.{places_in}
use Rattle.interface.specs.Boot.{cpus}
use Rattle.interface.specs.Damage.{fixed_place}
use Rattle.objects.proofs.WalkLaws.{all_range}
use Rattle.hypervisor_rules.proofs.idle_keep.Goals as goal

pub returns : goal.returns
returns c =
    let fixed : ℕ → Bool = fixed_place (places_in c.args.table.now) in
    all_from_yields_List fixed _ _ c.all.result c.all.ensures.ran (YieldsList-from_range (start object) (start object + cpus) cpus refl refl) (λ x b q k. search (rules, tests)) ∙
    rw (c.requires.1) at (all_range fixed cpus (start object))
