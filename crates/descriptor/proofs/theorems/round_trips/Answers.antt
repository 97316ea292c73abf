-- The round trips are laws of descriptors.
use Rattle.descriptor.proofs.DescriptorLaws as laws
use Rattle.descriptor.proofs.theorems.round_trips.Goals as goal

pub returns : goal.returns
returns c =
    record { word_fields = laws.word_fields; fields_word = laws.fields_word; range_back = laws.range_back; good_proper = laws.good_proper }
