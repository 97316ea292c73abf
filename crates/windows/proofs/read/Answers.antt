-- A word is read as it was kept.
use Rattle.descriptor.proofs.DescriptorLaws.{reading_kept}
use Rattle.windows.proofs.read.Goals as goal

pub returns : goal.returns
returns c = rw (c.read.ensures, c.from_word.ensures) (reading_kept c.args.word)
