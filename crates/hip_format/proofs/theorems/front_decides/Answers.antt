-- More bytes than a page has are refused for the signature or the length.
use Rattle.hip_format.proofs.FrontLaws.{front_decides}
use Rattle.hip_format.proofs.theorems.front_decides.Goals as goal

pub returns : goal.returns
returns c = front_decides
