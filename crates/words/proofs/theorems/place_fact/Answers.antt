-- The place fact is laws of places.
use Rattle.words.proofs.PlaceLaws as laws
use Rattle.words.proofs.theorems.place_fact.Goals as goal

pub returns : goal.returns
returns c =
    record {
      is_place = laws.is_place;
      domain_back = laws.domain_back;
      space_back = laws.space_back;
      selector_back = laws.selector_back;
      made_so = laws.made_so;
      space_small = laws.space_small;
      selector_small = laws.selector_small;
      domain_small = laws.domain_small;
    }
