-- The checks refuse the creation, or it takes its steps.
use Rattle.std.proofs.Common.{refl, rules}
use Rattle.std.proofs.lemmas.Result.{err_from_is_err_and}
use Rattle.creation_rule.proofs.CreateLaws.{takes_small, takes_handed, refused_creates, granted_creates}
use Rattle.creation_rule.proofs.create.Goals as goal

pub returns-in_err-number : goal.returns-in_err-number
returns-in_err-number c =
    let refused = err_from_is_err_and c.from_residual.result c.from_residual.ensures.1 in
    rw (refused.1, refused.2) (refused_creates c.in_err-number.ensures c.requires.0 c.requires.1 refl)

pub make-requires : goal.make-requires
make-requires c = (c.requires.1, takes_small c.in_ok-number.ensures refl)

pub give_initial-requires : goal.give_initial-requires
give_initial-requires c = (c.requires.0, c.requires.2, takes_handed c.in_ok-number.ensures refl _ _ c.requires.5)

pub returns : goal.returns
returns c =
    granted_creates c.in_ok-number.ensures refl c.make.ensures c.give_initial.ensures c.object_place.ensures.0 c.number.ensures c.greatest_of.ensures
    c.without_parent.ensures c.store.ensures
