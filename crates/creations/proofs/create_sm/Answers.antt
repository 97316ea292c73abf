-- The rule is run with the count.
use borrow.Author.Rules.{rules}
use Rattle.capabilities.proofs.CallerLaws.{sized_places, sized_objects}
use Rattle.creations.proofs.CallLaws.{sm_runs}
use Rattle.creations.proofs.create_sm.Goals as goal

pub create-requires : goal.create-requires
create-requires c = search (sized_places, sized_objects, rules)

pub returns : goal.returns
returns c = λ call is_caller is_first is_second is_third.
    let created = rw c.of-new.ensures at c.create.ensures in search (created, sm_runs, rules)
