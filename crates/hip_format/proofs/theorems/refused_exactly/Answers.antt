-- Each refusal by the test that fails.
use Rattle.hip_format.proofs.JudgeLaws as laws
use Rattle.hip_format.proofs.theorems.refused_exactly.Goals as goal

pub returns : goal.returns
returns c = record {
  short = laws.refused_short;
  bad_signature = laws.refused_signature;
  bad_length = laws.refused_length;
  bad_layout = laws.refused_layout;
  bad_checksum = laws.refused_checksum;
  bad_type = laws.refused_type;
  good = laws.accepted_exactly;
  odd = laws.refused_odd;
}
