-- What is given, list by list.
use Rattle.hip_format.proofs.GivenLaws as laws
use Rattle.hip_format.proofs.theorems.given_exactly.Goals as goal

pub returns : goal.returns
returns c = record {
  count = laws.given_count;
  at_most = laws.at_most_shortest;
  whole_cpus = laws.whole_cpus;
  all_given = laws.all_given;
}
