use Rattle.interface.proofs.Consequences.ConsequenceLaws.{refused_stays}
use Rattle.theorems.proofs.refused_stays.Goals as goal

pub returns : goal.returns
returns c = refused_stays
