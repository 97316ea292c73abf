-- The list begins with the marked places before those that are left.
use Rattle.std.proofs.Common.{rules}
use mathlib.Core.Path.{◌∙◌}
use Rattle.std.specs.Iterator.Adapters.{enumerate_source}
use Prim.Native.Nat.{◌<◌}
use lib.ListN.{length}
use Rattle.marks.specs.PlaceBits.{NextMarked}
use Rattle.marks.proofs.MarkedLaws.{filled_none, filled_room, filled_more, filled_all}
use Rattle.marks.proofs.Marks.list.Goals as goal
use Rattle.marks.proofs.Marks.list.Goals.{In-Some}

-- the list with the next marked place has room for it
found : (c : In-Some) → NextMarked c.args.self.now (enumerate_source c.loop-count.count-iterator).from c.in-Some.place.0
found c = rw c.loop-count.invariant.same_marks at c.in-Some.ensures.steps.0.1.0

room : (c : In-Some) → c.in-Some.count < length c.loop-count.list
room c = rw c.in-Some.ensures.steps.1 (filled_room c.loop-count.invariant.filled (found c) c.requires)

pub loop-count-init : goal.loop-count-init
loop-count-init c = record {
  callable = search rules;
  ends = search rules;
  same_marks = search rules;
  filled = filled_none _ (search rules) (search rules);
}

pub bounds-list-count : goal.bounds-list-count
bounds-list-count c = search (room, rules)

pub loop-count-preserved : goal.loop-count-preserved
loop-count-preserved c = record {
  callable = search rules;
  ends = search rules;
  same_marks = c.in-Some.ensures.steps.0.0 ∙ c.loop-count.invariant.same_marks;
  filled =
      let steps = c.in-Some.ensures.steps in
      let own = (goal.at.loop-count-preserved c).In-Some in
      rw (steps.0.1.1, steps.2, c.number.ensures, steps.1) (filled_more c.loop-count.invariant.filled (found own) (rw steps.1 at (room own)));
}

pub returns : goal.returns
returns c = filled_all c.loop-count.invariant.filled (enumerate_source c.loop-count.count-iterator).inside (rw c.loop-count.invariant.same_marks at c.in-None.ensures.steps.0.1.0)
