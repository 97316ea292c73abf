use Rattle.interface.proofs.History.DemandLaws.{demand_3}
use Rattle.theorems.proofs.demand_3.Goals as goal

pub returns : goal.returns
returns c = demand_3
