-- Every other kind has no permissions.
use borrow.Author.Rules.{rules}
use Rattle.objects.proofs.GreatestLaws.{no_permissions}
use Rattle.objects.proofs.greatest_of.Goals as goal

pub returns-in_default : goal.returns-in_default
returns-in_default c = search (no_permissions, rules)
