-- The kind that the words begin with is the record's, and the permissions are the greatest of that kind.
use borrow.Author.Rules.{rules}
use Rattle.boot.proofs.BootCapLaws.{object_cap}
use Rattle.boot.proofs.boot_object.Goals as goal

pub returns : goal.returns
returns c = search (object_cap, rules)
