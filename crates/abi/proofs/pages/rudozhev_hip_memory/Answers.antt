-- The descriptor that is found, with its type as it was stored.
use Rattle.abi.proofs.PagePackingLaws.{reads_no_memory, reads_memory}
use Rattle.abi.proofs.pages.rudozhev_hip_memory.Goals as goal

pub returns-in-None : goal.returns-in-None
returns-in-None c = let start = c.args in
    reads_no_memory start.page.now start.numbers.now start.index _ c.memory.ensures c.in-None.is

pub returns-in-Some : goal.returns-in-Some
returns-in-Some c = let start = c.args in
    reads_memory start.page.now start.numbers.now start.index _ _ c.memory.ensures c.in-Some.is
