-- Numbers in turn and their bytes both ways are laws of runs.
use Rattle.endian.proofs.RunLaws as laws
use Rattle.endian.proofs.theorems.runs_both_ways.Goals as goal

pub returns : goal.returns
returns c = record { numbers_back = laws.numbers_back; bytes_back = laws.write_numbers }
