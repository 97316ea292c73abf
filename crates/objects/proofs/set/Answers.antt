-- The word is stored where the record has it.
use native.Mathlib.Omega.{arith}
use Rattle.objects.proofs.RecordTableLaws.{word_stored}
use Rattle.objects.proofs.set.Goals as goal

pub returns : goal.returns
returns c =
    let given = c.args in
    rw c.words_start.ensures (word_stored given.table.now given.number.0 given.index given.value (omega arith) (omega arith) (omega arith))
