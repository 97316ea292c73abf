use Rattle.interface.proofs.History.DemandLaws.{last_revoke_exists}
use Rattle.theorems.proofs.last_revoke_exists.Goals as goal

pub returns : goal.returns
returns c = last_revoke_exists
