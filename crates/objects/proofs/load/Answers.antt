-- The word is read where the record has it.
use native.Mathlib.Omega.{arith}
use Rattle.objects.proofs.RecordTableLaws.{object_at_word}
use Rattle.objects.proofs.load.Goals as goal

pub returns : goal.returns
returns c =
    let given = c.args in
    rw c.words_start.ensures (object_at_word given.table.now given.number.0 given.index (omega arith))
