-- Boot tells whether the tables have their lengths; then the records are played, and where the buffer has room the last lines are written.
use Prim.Native.Nat.{◌+◌, ◌*◌, ◌≤◌}
use mathlib.Core.Path.{refl, sym, ◌∙◌}
use native.Mathlib.Omega.{arith}
use lib.ListN.{length}
use Rattle.journal_lines.specs.Lines.{line_bytes}
use Rattle.playback.proofs.PlayingLaws.{plays_from_boot, sound_from_boot, stopped_none, stopped_by, replays_part, part_ends, all_records, replays_all, all_or_no_room, boot_refused, boot_done}
use borrow.Author.Rules.{rules}
use Rattle.playback.proofs.replay.Goals as goal

pub returns-then-is_err : goal.returns-then-is_err
returns-then-is_err c =
    let (other, stay) = boot_refused c.boot.ensures.booted (sym c.is_err.ensures.value ∙ c.if-is_err.true) in (other, stay, refl)

pub play_records-played-requires : goal.play_records-played-requires
play_records-played-requires c =
    let started = boot_done c.boot.ensures.booted (sym c.is_err.ensures.value ∙ c.if-is_err.false) in
    record { sound_before = sound_from_boot (c.boot.ensures.from_boot started.0); written_inside = search rules; count_fits = search rules }

pub returns-then-text-written : goal.returns-then-text-written
returns-then-text-written c =
    let started = boot_done c.boot.ensures.booted (sym c.is_err.ensures.value ∙ c.if-is_err.false) in
    let played = c.play_records-played in
    let given = c.args in
    let journal = given.journal.now in
    let plays = plays_from_boot started.1 played.ensures.plays in (
      started.0,
      search rules,
      all_or_no_room journal played.result.at plays (stopped_by (length given.text.now) (search rules) played.ensures.stops),
      replays_part journal played.result.at plays,
    )

pub returns : goal.returns
returns c =
    let started = boot_done c.boot.ensures.booted (sym c.is_err.ensures.value ∙ c.if-is_err.false) in
    let played = c.play_records-played in
    let given = c.args in
    let journal = given.journal.now in
    let plays = plays_from_boot started.1 played.ensures.plays in
    let none = stopped_none played.ensures.stops (search rules) in
    let room : played.result.written + 2 * line_bytes ≤ length given.text.now = search rules in (
      started.0,
      all_records journal played.result.at plays none,
      omega (arith, part_ends journal played.result.at plays, room),
      replays_all journal played.result.at plays none played.ensures.stops.stands c.add_last_lines-bytes.ensures.wrote,
    )
