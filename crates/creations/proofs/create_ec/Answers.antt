-- The rule is run with the domain of the PD that the selector names.
use borrow.Author.Rules.{rules}
use Rattle.capabilities.proofs.CallerLaws.{sized_places, sized_objects}
use Rattle.creations.proofs.CallLaws.{ec_runs}
use Rattle.creations.proofs.create_ec.Goals as goal

pub load-named-requires : goal.load-named-requires
load-named-requires c = search (sized_places, rules)

pub load_named-home-requires : goal.load_named-home-requires
load_named-home-requires c = search (sized_objects, rules)

pub create-requires : goal.create-requires
create-requires c = search (sized_places, sized_objects, rules)

pub returns : goal.returns
returns c = λ call is_caller is_first is_second is_third is_fourth.
    let created = rw c.of.ensures at c.create.ensures in search (created, ec_runs, rules)
