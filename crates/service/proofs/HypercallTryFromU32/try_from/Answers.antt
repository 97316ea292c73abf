-- A number apart from those of the hypercalls has no rule.
use borrow.Author.Rules.{rules}
use Rattle.service.proofs.RuleLaws.{is_not_built}
use Rattle.service.proofs.HypercallTryFromU32.try_from.Goals as goal

pub returns-in_default : goal.returns-in_default
returns-in_default c =
    is_not_built _ (search rules) (search rules) (search rules) (search rules) (search rules) (search rules) (search rules) (search rules) (search rules)
