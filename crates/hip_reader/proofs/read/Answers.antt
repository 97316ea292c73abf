-- Each way out is a test that fails, the last one the summary.
use Rattle.hip_reader.proofs.ReadLaws.{answers_short, answers_signature, answers_length, answers_layout, answers_checksum, answers_type, answers_summary, begins}
use borrow.Author.Rules.{rules}
use Rattle.hip_reader.proofs.read.Goals as goal

pub returns-then-bytes-lt-HEADER_SIZE : goal.returns-then-bytes-lt-HEADER_SIZE
returns-then-bytes-lt-HEADER_SIZE c = search (answers_short, rules)

pub returns-then-not-is_signed : goal.returns-then-not-is_signed
returns-then-not-is_signed c = search (answers_signature, rules)

pub returns-then-get-bytes : goal.returns-then-get-bytes
returns-then-get-bytes c = search (answers_length, rules)

pub returns-then-not-is_laid_out : goal.returns-then-not-is_laid_out
returns-then-not-is_laid_out c = search (answers_layout, rules)

pub returns-then-word_sum-ne0 : goal.returns-then-word_sum-ne0
returns-then-word_sum-ne0 c = search (answers_checksum, rules)

pub overflow_sub-memories : goal.overflow_sub-memories
overflow_sub-memories c = (begins _ _ _ c.is_laid_out.ensures c.if-not-is_laid_out.false c.get-start.ensures).inside

pub are_allowed-requires : goal.are_allowed-requires
are_allowed-requires c = (begins _ _ _ c.is_laid_out.ensures c.if-not-is_laid_out.false c.get-start.ensures).ends

pub returns-then-not-are_allowed : goal.returns-then-not-are_allowed
returns-then-not-are_allowed c = search (answers_type, rules)

pub overflow_sub-result : goal.overflow_sub-result
overflow_sub-result c = (begins _ _ _ c.is_laid_out.ensures c.if-not-is_laid_out.false c.get-start.ensures).after_header

pub returns : goal.returns
returns c = answers_summary c.args.bytes.now (search rules) _ c.is_signed.ensures c.if-not-is_signed.false _ c.get.ensures
    c.if-get-bytes.false _ c.is_laid_out.ensures
    c.if-not-is_laid_out.false _ c.word_sum.ensures c.if-word_sum-ne0.false _
    c.get-start.ensures _ c.are_allowed.ensures c.if-not-are_allowed.false _ c.header_at.ensures
