-- The rule is run with the EC that the selector names.
use borrow.Author.Rules.{rules}
use Rattle.capabilities.proofs.CallerLaws.{sized_places, sized_objects}
use Rattle.creations.proofs.CallLaws.{pt_runs}
use Rattle.creations.proofs.create_pt.Goals as goal

pub bind-bound-requires : goal.bind-bound-requires
bind-bound-requires c = search (sized_places, sized_objects, rules)

pub create-requires : goal.create-requires
create-requires c = search (sized_places, sized_objects, rules)

pub returns : goal.returns
returns c = λ call is_caller is_first is_second is_third is_fourth is_fifth is_sixth.
    let created = rw c.of.ensures at c.create.ensures in search (created, pt_runs, rules)
