-- What goes is marked on the table as it is found, and then emptied.
use Rattle.repair.proofs.MendLaws.{mended}
use Rattle.repair.proofs.mend.Goals as goal

pub returns : goal.returns
returns c =
    mended _ _ _ _ _ _ c.mark_links.ensures c.empty_lost.ensures.lost_marked c.empty_lost.ensures.emptied
