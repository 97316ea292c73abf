-- A range that is shown is proper.
use mathlib.Core.Path.{sym, ap, ◌∙◌}
use Rattle.interface.specs.Message.{received_word}
use Rattle.transfer.proofs.received_word.Goals as goal

pub word_of-requires : goal.word_of-requires
word_of-requires c = c.requires _ c.in-Ok.is

pub returns-in-Err : goal.returns-in-Err
returns-in-Err c = c.word.ensures ∙ sym (ap received_word c.in-Err.is)

pub returns-in-Ok : goal.returns-in-Ok
returns-in-Ok c = c.word_of.ensures ∙ sym (ap received_word c.in-Ok.is)
