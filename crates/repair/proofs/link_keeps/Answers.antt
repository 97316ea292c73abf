-- The tests are the definition's.
use Rattle.repair.proofs.WalkLaws.{link_told}
use Rattle.repair.proofs.link_keeps.Goals as goal

pub returns : goal.returns
returns c = link_told _ _ _ _ _ c.cap_at-depth.ensures c.live_or_null.ensures
