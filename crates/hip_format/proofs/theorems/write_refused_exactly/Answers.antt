-- Each refusal to write by the test that fails.
use Rattle.hip_format.proofs.WriteLaws as laws
use Rattle.hip_format.proofs.theorems.write_refused_exactly.Goals as goal

pub returns : goal.returns
returns c = record {
  bad_type = laws.refused_type;
  large = laws.refused_large;
  no_room = laws.refused_room;
  stays = laws.buffer_stays;
  good = laws.written_good;
  long = laws.length_whole;
}
