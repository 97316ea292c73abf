-- A range that is read is a proper one.
use mathlib.Core.Path.{sym, ◌∙◌}
use Rattle.descriptor.proofs.DescriptorLaws.{good_proper}
use Rattle.incident.proofs.telling.say_found.Goals as goal

pub say_range-requires : goal.say_range-requires
say_range-requires c = good_proper _ _ (sym c.read.ensures ∙ c.in-Good.is)
