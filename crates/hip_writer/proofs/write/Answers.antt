-- Each way out is a test that refuses, the last one the page.
use native.Mathlib.Omega.{arith}
use Rattle.hip_writer.proofs.RunLaws.{answers_type, answers_large, answers_room, answers_done}
use borrow.Author.Rules.{rules}
use Rattle.hip_writer.proofs.write.Goals as goal

pub returns-then-not-are_allowed : goal.returns-then-not-are_allowed
returns-then-not-are_allowed c = search (answers_type, rules)

pub returns-then-whole_cpus-gt-MOST_CPUS : goal.returns-then-whole_cpus-gt-MOST_CPUS
returns-then-whole_cpus-gt-MOST_CPUS c = answers_large c.args.header c.args.cpus.now c.args.addresses.now c.args.sizes.now c.args.kinds.now c.args.auxiliaries.now c.args.buffer.now c.count_of-memories.result c.count_of-memories.ensures _ c.are_allowed.ensures c.if-not-are_allowed.false (omega arith)

pub returns-then-memories-gt-MOST_MEMORIES : goal.returns-then-memories-gt-MOST_MEMORIES
returns-then-memories-gt-MOST_MEMORIES c = answers_large c.args.header c.args.cpus.now c.args.addresses.now c.args.sizes.now c.args.kinds.now c.args.auxiliaries.now c.args.buffer.now c.count_of-memories.result c.count_of-memories.ensures _ c.are_allowed.ensures c.if-not-are_allowed.false (omega arith)

pub returns-then-size-gt-GREATEST_LENGTH : goal.returns-then-size-gt-GREATEST_LENGTH
returns-then-size-gt-GREATEST_LENGTH c = search (answers_large, rules)

pub returns-then-buffer-size : goal.returns-then-buffer-size
returns-then-buffer-size c = search (answers_room, rules)

pub returns : goal.returns
returns c = answers_done c.args.header c.args.cpus.now c.args.addresses.now c.args.sizes.now c.args.kinds.now c.args.auxiliaries.now c.args.buffer.now c.count_of-memories.result c.count_of-memories.ensures _ c.are_allowed.ensures c.if-not-are_allowed.false _ _ (omega arith) (omega arith) c.put_page-done.ensures.value c.put_page-done.ensures.buffer_after
