use Rattle.descriptor.proofs.Range.of.Goals as goal

pub returns : goal.returns
returns c = rw c.number.ensures
