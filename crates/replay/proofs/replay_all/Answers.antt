-- The positions lie in the buffers after each turn, and the loop counts the turns.
use mathlib.Core.Logic.{inl, inr}
use native.Mathlib.Omega.{arith}
use borrow.Author.Rules.{rules}
use Rattle.interface.specs.Places.{tables}
use Rattle.turns.specs.Buffers.{begun}
use Rattle.replay.proofs.BufferLaws.{turns_none, turns_more}
use Rattle.replay.proofs.replay_all.Goals as goal

pub loop-turn-init : goal.loop-turn-init
loop-turn-init g c = (search rules, search rules, search rules, search rules, search rules, search rules, turns_none _)

pub loop-turn-preserved : goal.loop-turn-preserved
loop-turn-preserved g c =
    let turn = c.loop-turn in
    let more = c.replay_more-progress in
    let played = more.ensures in
    let args = c.args in (
      search rules,
      search rules,
      search rules,
      search rules,
      search rules,
      played.sound_after,
      turns_more (record { progress = begun args.waiting; tables = tables args.places.now args.objects.now; input = args.input.now; out = args.out.now })
          {after = record { progress = more.result; tables = tables more.new.places more.new.objects; input = more.new.input; out = more.new.out }}
          turn.turn turn.invariant.6
          (record { goes_on = c.if-progress.false; turn = played.turn; keeps = played.keeps_unplayed }),
    )

pub returns-then-progress : goal.returns-then-progress
returns-then-progress g c = let turn = c.loop-turn in
    record { inside = turn.invariant.0; turns_to_the_end = (turn.turn, turn.invariant.6, inl c.if-progress.true) }

pub returns : goal.returns
returns g c = let turn = c.loop-turn in
    record { inside = turn.invariant.0; turns_to_the_end = (turn.turn, turn.invariant.6, inr (omega arith)) }
