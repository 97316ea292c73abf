-- The hotspot fact is laws of ranges.
use Rattle.words.proofs.RangeLaws as laws
use Rattle.words.proofs.theorems.hotspot_fact.Goals as goal

pub returns : goal.returns
returns c =
    record {
      equal_orders = laws.equal_orders;
      keeps_aligned = laws.keeps_aligned;
      starts_inside = laws.starts_inside;
      ends_inside = laws.ends_inside;
      holds_hotspot = laws.holds_hotspot;
    }
