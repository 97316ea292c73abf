-- The rule is run with the next domain and the initial range.
use borrow.Author.Rules.{rules}
use Rattle.capabilities.proofs.CallerLaws.{sized_places, sized_objects}
use Rattle.creation_rule.proofs.InitialLaws.{initial_handed, next_fits}
use Rattle.creations.proofs.CallLaws.{pd_runs}
use Rattle.creations.proofs.create_pd.Goals as goal

pub pds_below-next-requires : goal.pds_below-next-requires
pds_below-next-requires c = search (sized_objects, rules)

pub overflow_add-next : goal.overflow_add-next
overflow_add-next c = search (next_fits, rules)

pub create-requires : goal.create-requires
create-requires c = search (sized_places, sized_objects, initial_handed, rules)

pub returns : goal.returns
returns c = λ call is_caller is_first is_second is_third.
    let created = rw c.of.ensures at c.create.ensures in search (created, pd_runs, rules)
