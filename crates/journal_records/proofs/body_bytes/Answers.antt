-- Each kind has the size that the definition gives it, and a kind that is none of them has none.
use Rattle.std.proofs.Common.{rules, tests}
use Rattle.interface.specs.Journal.{body_bytes}
use Rattle.journal_records.proofs.body_bytes.Goals as goal

pub returns-in-0 : goal.returns-in-0
unfolding body_bytes
returns-in-0 c = rw c.in-0.is

pub returns-in-2 : goal.returns-in-2
unfolding body_bytes
returns-in-2 c = rw c.in-2.is

pub returns-in-3 : goal.returns-in-3
unfolding body_bytes
returns-in-3 c = rw c.in-3.is

pub returns-in-4 : goal.returns-in-4
unfolding body_bytes
returns-in-4 c = rw c.in-4.is

pub returns-in-5 : goal.returns-in-5
unfolding body_bytes
returns-in-5 c = rw c.in-5.is

pub returns-in-6 : goal.returns-in-6
unfolding body_bytes
returns-in-6 c = rw c.in-6.is

pub returns-in-7 : goal.returns-in-7
unfolding body_bytes
returns-in-7 c = rw c.in-7.is

pub returns-in-8 : goal.returns-in-8
unfolding body_bytes
returns-in-8 c = rw c.in-8.is

pub returns-in-11 : goal.returns-in-11
unfolding body_bytes
returns-in-11 c = rw c.in-11.is

pub returns-in_default : goal.returns-in_default
unfolding body_bytes
returns-in_default c = search (tests, rules)
