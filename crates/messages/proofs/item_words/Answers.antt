-- The words are numbers, so that their fields compute.
use mathlib.Core.Path.{refl}
use Rattle.messages.proofs.item_words.Goals as goal

pub returns : goal.returns
returns c =
    record {
      nothing_untyped = refl;
      one_typed = refl;
      delegates = (refl, refl);
      from_caller = refl;
      from_hypervisor = refl;
      no_hotspot = (refl, refl);
    }
