-- The first word is read whole, or made of its four bytes where some of them stand past the end.
use borrow.Author.Rules.{rules}
use Rattle.journal_records.proofs.BodyLaws.{first_of_four, word_at}
use Rattle.journal_records.proofs.first_word.Goals as goal

pub returns-then-bytes-lt-WORD_BYTES : goal.returns-then-bytes-lt-WORD_BYTES
returns-then-bytes-lt-WORD_BYTES c = first_of_four c.args.bytes.now _ _ _ _ _ c.byte.ensures c.byte-then-bytes-lt-WORD_BYTES.ensures c.byte-then-bytes-lt-WORD_BYTES-2.ensures c.byte-then-bytes-lt-WORD_BYTES-3.ensures c.from_le_bytes.ensures

pub returns : goal.returns
returns c = search (word_at, rules)
