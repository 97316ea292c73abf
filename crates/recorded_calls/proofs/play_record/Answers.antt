-- The tables are those after the hypercall, and the line is that of its reply.
use mathlib.Core.Path.{ap, ◌∙◌}
use Rattle.interface.specs.Places.{tables}
use Rattle.interface.specs.Outcomes.{Answered}
use Rattle.interface.specs.Journal.{recorded_call}
use Rattle.recorded_calls.proofs.LineLaws.{after_one, line_played}
use Rattle.recorded_calls.proofs.play_record.Goals as goal

pub returns : goal.returns
returns c =
    let start = c.args in
    let here = tables start.places.now start.objects.now in
    let playing = c.play-reply.ensures in
    let status = c.status.ensures in
    let answer = c.answer.ensures in
    let line = c.add_line.ensures.wrote in
    record {
      leaves = ap (λ (p : Answered). p.tables) playing.answers ∙ after_one here (recorded_call start.kind start.body.now);
      still_sound = playing.sound_after;
      writes = line_played here start.index start.kind start.body.now (ap (λ (p : Answered). p.reply) playing.answers) status answer line;
    }
