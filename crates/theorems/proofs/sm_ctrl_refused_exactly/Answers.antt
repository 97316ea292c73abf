use Rattle.interface.proofs.Refusals.OtherRefusals.{sm_ctrl_refused_exactly}
use Rattle.theorems.proofs.sm_ctrl_refused_exactly.Goals as goal

pub returns : goal.returns
returns c = sm_ctrl_refused_exactly
