-- The marked places before those that are left are changed, and the others are as they were.
use mathlib.Core.Path.{ap, ◌∙◌, ◌≡◌}
use Rattle.std.proofs.Common.{rules}
use Rattle.interface.specs.Basics.{put}
use Rattle.interface.specs.Places.{Cap, cap_at, cap_table}
use Rattle.tree.proofs.MarkedLaws.{left_none, left_more, is_sized, left_all}
use Rattle.tree.proofs.change_marked.Goals as goal

pub loop-place-init : goal.loop-place-init
loop-place-init g c =
    record {
      sized = c.requires.0;
      same_marks = search rules;
      changed = λ h acts. let begins : c.into_iter-place-iterator.result.from ≡ 0 = search rules in rw begins (left_none _ _ h c.requires.0);
    }

pub loop-place-preserved : goal.loop-place-preserved
loop-place-preserved g c =
    let inv = c.loop-place.invariant in
    let steps = c.in-Some.ensures.steps in
    record {
      sized = is_sized (put (cap_at c.loop-place.table) c.in-Some.place.0 c.change.result) c.store.ensures;
      same_marks = steps.0 ∙ inv.same_marks;
      changed = λ h acts.
          let is = acts _ _ c.change.ensures ∙ ap h c.load-cap.ensures in
          rw steps.1.1
          (left_more _ _ h (inv.changed h acts) (rw inv.same_marks at steps.1.0)
          (c.store.ensures ∙ ap (λ (cap : Cap). cap_table (put (cap_at c.loop-place.table) c.in-Some.place.0 cap)) is));
    }

pub returns : goal.returns
returns g c h acts = left_all _ _ h (c.loop-place.invariant.changed h acts) (rw c.loop-place.invariant.same_marks at c.in-None.ensures.steps.1.0)
