-- The types are told apart one by one.
use Rattle.hip_format.proofs.TypeLaws as laws
use Rattle.hip_format.proofs.theorems.types_exactly.Goals as goal

pub returns : goal.returns
returns c = record { one = laws.type_exactly; each = laws.types_exactly }
