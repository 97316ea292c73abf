-- A null or malformed descriptor hands on nothing.
use Rattle.creation_rule.proofs.InitialLaws.{hands_nothing}
use Rattle.creation_rule.proofs.give_initial.Goals as goal

pub returns-in_default : goal.returns-in_default
returns-in_default c = hands_nothing c.args.from c.args.to c.args.initial c.args.table.now c.in_default.not-Good
