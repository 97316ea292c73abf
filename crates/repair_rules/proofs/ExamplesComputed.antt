-- The examples follow from the definitions by computing.
use mathlib.Core.Path.{refl}
use Rattle.interface.specs.Basics.{put}
use Rattle.interface.specs.Boot.{boot_record, hypervisor_cap, root_memory, root_cap, boot_cap}
use Rattle.interface.proofs.Sound.Soundness.{damage_rules}
use Rattle.repair_rules.specs.Repair.{whole_within, whole, stays, repaired_cap}
use Rattle.repair_rules.specs.RepairExamples.{RepairExamples}

pub repair_examples : RepairExamples
unfolding damage_rules put boot_record hypervisor_cap root_memory root_cap boot_cap whole_within whole stays repaired_cap
repair_examples =
    record {
      left_over = refl;
      no_origin = refl;
      no_domain = refl;
      root_pages = refl;
      more_first = refl;
      more_than_parent = refl;
      below_it = refl;
      two_parents = refl;
      each_others = refl;
      own_parent = refl;
      deep = refl;
      too_deep = refl;
      broken_there = refl;
      from_broken = refl;
      less_there = refl;
      through_there = refl;
      still_there = refl;
      left_over_there = refl;
      no_kind = refl;
    }
