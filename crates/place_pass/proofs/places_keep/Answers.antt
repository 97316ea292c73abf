-- The loop's invariant: the places before this group pass the shorter test. The places after these decide by being blank.
use Prim.Native.Nat.{◌+◌, ◌*◌}
use mathlib.Core.Path.{◌≡◌, sym, ◌∙◌, ap}
use mathlib.Core.Bool.{not}
use native.Mathlib.Omega.{arith}
use Rattle.words.specs.Sizes.{stride, places}
use Rattle.interface.proofs.Basics.LoopLaws.{all_below_done, all_below_within}
use Rattle.record_rules.proofs.PdLaws.{few_pds}
use Rattle.place_pass.specs.PassKeeping.{group}
use Rattle.place_pass.proofs.QuickLaws.{quick_decides, quick_start, blank_decides}
use Rattle.place_pass.proofs.places_keep.Goals as goal

pub overflow_add-end : goal.overflow_add-end
overflow_add-end c = omega (arith, few_pds c.requires.1.numbered)

pub overflow_mul-end : goal.overflow_mul-end
overflow_mul-end c = omega (arith, few_pds c.requires.1.numbered)

pub loop-group-init : goal.loop-group-init
loop-group-init c = (omega arith, quick_start _)

pub group_keeps-requires : goal.group_keeps-requires
group_keeps-requires c =
    let loop = c.loop-group in (
      record {
        pds = c.args.pds;
        places_long = c.requires.0;
        kept = c.requires.1;
        past_hypervisor = omega arith;
        has_pd_lem = omega arith;
        aligned = omega arith;
        passed = loop.invariant.1;
      },
      omega (arith, few_pds c.requires.1.numbered),
    )

pub returns-then-not-group_keeps : goal.returns-then-not-group_keeps
returns-then-not-group_keeps c =
    let few = few_pds c.requires.1.numbered in
    all_below_within _ (group * c.loop-group.group + group) places _ (omega arith) c.group_keeps.ensures (ap not c.if-not-group_keeps.true) ∙
    quick_decides _ c.requires.1 c.requires.2

pub loop-group-preserved : goal.loop-group-preserved
loop-group-preserved c =
    let next : group * c.loop-group.group + group ≡ group * (c.loop-group.group + 1) = omega arith in
    (omega arith, sym (rw (c.if-not-group_keeps.false, next) at c.group_keeps.ensures))

pub overflow_mul-group : goal.overflow_mul-group
overflow_mul-group c = omega (arith, few_pds c.requires.1.numbered)

pub rest_is_blank-requires : goal.rest_is_blank-requires
rest_is_blank-requires c =
    let few = few_pds c.requires.1.numbered in
    (c.requires.0, omega arith, omega arith)

pub returns : goal.returns
returns c =
    let loop = c.loop-group in
    let few = few_pds c.requires.1.numbered in
    let end = stride * (c.args.pds + 1) in
    blank_decides _ c.requires.1 end _ (omega arith) (omega arith) (omega arith)
    (sym (all_below_done _ end (group * loop.group) (omega arith) (omega arith) loop.invariant.1)) c.rest_is_blank.ensures ∙
    quick_decides _ c.requires.1 c.requires.2
