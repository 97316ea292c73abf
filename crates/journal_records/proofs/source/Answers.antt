-- The first block of a CALL begins after the portal selector.
use Rattle.interface.specs.Journal.{recorded_call}
use Rattle.journal_records.proofs.source.Goals as goal

pub returns : goal.returns
unfolding recorded_call
returns c = c.block_from.ensures
