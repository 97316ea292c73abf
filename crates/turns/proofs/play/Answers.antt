-- Either no record is played, or those that are played with their lines.
use mathlib.Core.Path.{refl}
use native.Mathlib.Omega.{arith}
use Rattle.playback.proofs.PlayingLaws.{plays_start}
use borrow.Author.Rules.{rules}
use Rattle.turns.proofs.play.Goals as goal

pub returns-then-done-input : goal.returns-then-done-input
returns-then-done-input c =
    record {
      inside = search rules;
      turn = record {
        all_read = refl;
        plays = plays_start _ _ _ _ (search rules);
        stands = c.record_at.ensures;
        no_room = λ below. absurd (omega arith);
        over = λ below. absurd (omega arith);
        past_count = λ past. (refl, refl);
        still_last = refl;
      };
      sound_after = search rules;
    }

pub returns : goal.returns
returns c =
    let played = c.play_records-played.ensures in
    record {
      inside = record { next = played.stops.inside; read = omega arith; lines = played.plays.writes.fits; long = search rules };
      turn = record {
        all_read = refl;
        plays = played.plays;
        stands = played.stops.stands;
        no_room = λ below. played.stops.no_room;
        over = λ below. c.is_end.ensures;
        past_count = λ past. absurd (omega arith);
        still_last = refl;
      };
      sound_after = played.sound_after;
    }
