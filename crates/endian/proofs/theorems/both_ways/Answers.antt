-- Numbers and bytes both ways are laws of numbers.
use Rattle.endian.proofs.NumberLaws as laws
use Rattle.endian.proofs.theorems.both_ways.Goals as goal

pub returns : goal.returns
returns c = record { number_back = laws.little_bytes; bytes_back = laws.bytes_little }
