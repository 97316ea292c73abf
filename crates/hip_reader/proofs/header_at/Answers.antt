-- Ten numbers of 32 bits at their places.
use Rattle.hip_reader.proofs.header_at.Goals as goal

pub returns : goal.returns
returns c = cc
