-- A number of 64 bits has 20 digits at most, of 32 bits 10 and of 8 bits 3, so each has room after those before it.
use Prim.Native.Nat.{◌≤◌}
use native.Mathlib.Omega.{arith}
use Rattle.interface.specs.Journal.{blank}
use Rattle.texts.proofs.DecimalLaws.{decimal_at_most}
use Rattle.texts.proofs.TextLaws.{number_ends}
use Rattle.journal_lines.proofs.LineLaws.{wrote_done}
use Rattle.journal_lines.proofs.put_done.Goals as goal

pub put_number-kind_at-requires : goal.put_number-kind_at-requires
put_number-kind_at-requires c = omega (arith, c.requires, decimal_at_most 19 c.args.index (omega (arith, c.ranges.index)))

-- where the index, the kind and the status end
pub put_number-status_at-requires : goal.put_number-status_at-requires
put_number-status_at-requires c =
    let one : c.put_number-kind_at.result ≤ 21 = number_ends 19 c.args.index blank (omega (arith, c.ranges.index)) c.put_number-kind_at.ensures in
    omega (arith, decimal_at_most 2 c.args.kind (omega (arith, c.ranges.kind)))

pub put_number-answer_at-requires : goal.put_number-answer_at-requires
put_number-answer_at-requires c =
    let one : c.put_number-kind_at.result ≤ 21 = number_ends 19 c.args.index blank (omega (arith, c.ranges.index)) c.put_number-kind_at.ensures in
    let two : c.put_number-status_at.result ≤ 25 = omega (arith, number_ends 2 c.args.kind blank (omega (arith, c.ranges.kind)) c.put_number-status_at.ensures) in
    omega (arith, decimal_at_most 9 c.args.status (omega (arith, c.ranges.status)))

pub put_number-requires : goal.put_number-requires
put_number-requires c =
    let one : c.put_number-kind_at.result ≤ 21 = number_ends 19 c.args.index blank (omega (arith, c.ranges.index)) c.put_number-kind_at.ensures in
    let two : c.put_number-status_at.result ≤ 25 = omega (arith, number_ends 2 c.args.kind blank (omega (arith, c.ranges.kind)) c.put_number-status_at.ensures) in
    let three : c.put_number-answer_at.result ≤ 36 = omega (arith, number_ends 9 c.args.status blank (omega (arith, c.ranges.status)) c.put_number-answer_at.ensures) in
    omega (arith, decimal_at_most 9 c.args.answer (omega (arith, c.ranges.answer)))

pub returns : goal.returns
returns c = wrote_done c.args.index c.args.kind c.args.status c.args.answer c.put_number-kind_at.ensures c.put_number-status_at.ensures c.put_number-answer_at.ensures
    c.put_number.ensures
