-- The four numbers of a descriptor at their places.
use Rattle.hip_reader.proofs.ReadLaws.{memory_read_lem}
use borrow.Author.Rules.{rules}
use Rattle.hip_reader.proofs.memory_at.Goals as goal

pub returns : goal.returns
returns c = search (memory_read_lem, rules)
