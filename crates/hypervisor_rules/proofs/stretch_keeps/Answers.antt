-- The first place and the last are as at boot, and with steps in between all are.
use Rattle.std.proofs.Common.{rules}
use Rattle.hypervisor_rules.proofs.StretchLaws.{ends_broken, stretch_decides}
use Rattle.hypervisor_rules.proofs.stretch_keeps.Goals as goal

pub returns-then-fixed_keeps : goal.returns-then-fixed_keeps
returns-then-fixed_keeps c = search (stretch_decides, rules)

pub returns-else-fixed_keeps : goal.returns-else-fixed_keeps
returns-else-fixed_keeps c = search (ends_broken, rules)
