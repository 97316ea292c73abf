-- What was read lies in the input buffer, and so do the records that were played.
use Prim.Native.Nat.{◌≤◌}
use mathlib.Core.Path.{◌∙◌}
use native.Mathlib.Omega.{arith}
use lib.ListN.{length}
use lib.Seq.{length-take-le}
use Rattle.interface.specs.Places.{tables}
use Rattle.turns.proofs.FrontLaws.{moved_front}
use Rattle.replay.proofs.BufferLaws.{inside_whole, turn_whole, line_start_front, line_start_after, last_front, last_after_lem}
use borrow.Author.Rules.{rules}
use Rattle.replay.proofs.replay_more.Goals as goal

pub returns-then-is_whole : goal.returns-then-is_whole
returns-then-is_whole g c =
    let moved = c.move_to_front-kept in
    let is_whole = c.is_whole.ensures in
    let taken = c.if-is_whole.true in
    let play = c.play in
    let replayed = play.ensures in
    let fits : moved.result ≤ length moved.new.buffer = search rules in
    let start = line_start_front c.args.progress _ is_whole taken in
    let all = replayed.turn.all_read ∙ length-take-le moved.result moved.new.buffer fits in
    record {
      inside_after = inside_whole moved.new.buffer moved.result replayed.inside;
      turn =
          turn_whole moved.new.buffer moved.result fits
          {after = tables play.new.places play.new.objects} start (last_front _ _ is_whole taken _) replayed.turn;
      keeps_unplayed =
          record {
            still = moved_front c.args.input.now moved.new.buffer _ _ c.requires.inside.next c.requires.inside.read moved.ensures.moved;
            among = omega (arith, all, moved.ensures.size);
          };
      sound_after = replayed.sound_after;
    }

pub returns : goal.returns
returns g c =
    let moved = c.move_to_front-kept in
    let is_whole = c.is_whole.ensures in
    let left = c.if-is_whole.false in
    let read = c.read_more-filled in
    let play = c.play-2 in
    let replayed = play.ensures in
    let start = line_start_after c.args.progress _ is_whole left in
    let all = replayed.turn.all_read ∙ length-take-le read.result read.new.buffer read.ensures.bounds.1 in
    record {
      inside_after = inside_whole read.new.buffer read.result replayed.inside;
      turn =
          turn_whole read.new.buffer read.result read.ensures.bounds.1
          {after = tables play.new.places play.new.objects} start (last_after_lem _ _ is_whole left _ _ _ all moved.ensures.size) replayed.turn;
      keeps_unplayed =
          record {
            still =
                (rw moved.ensures.size at read.ensures.kept_bytes) ∙
                moved_front c.args.input.now moved.new.buffer _ _ c.requires.inside.next c.requires.inside.read moved.ensures.moved;
            among = omega (arith, all, moved.ensures.size, read.ensures.bounds.0);
          };
      sound_after = replayed.sound_after;
    }
