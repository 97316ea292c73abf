use Rattle.interface.proofs.Examples.SmallCasesComputed.{small_cases}
use Rattle.theorems.proofs.small_cases.Goals as goal

pub returns : goal.returns
returns c = small_cases
