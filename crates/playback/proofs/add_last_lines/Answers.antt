-- The line of the end is written after that of what stopped the reading.
use native.Mathlib.Omega.{arith}
use Rattle.playback.specs.Playing.{stop_of}
use Rattle.playback.proofs.LineLaws.{last_written}
use Rattle.playback.proofs.add_last_lines.Goals as goal

pub returns : goal.returns
returns c =
    let ended = c.add_line.ensures.wrote in
    record {
      wrote = last_written (stop_of c.args.next) c.args.records (omega (arith, c.requires)) c.add_stop_line-end.ensures.wrote ended;
      upper_bound = ended.fits;
    }
