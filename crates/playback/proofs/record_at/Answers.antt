-- What is found goes by the end, the kind's body and the bytes that are left.
use mathlib.Core.Path.{refl}
use native.Mathlib.Omega.{arith}
use borrow.Author.Rules.{rules}
use Rattle.playback.proofs.FoundLaws.{found_nothing, found_unknown, found_short, found_whole}
use Rattle.playback.proofs.record_at.Goals as goal

pub returns-then-journal-at : goal.returns-then-journal-at
returns-then-journal-at c = found_nothing c.args.journal.now c.args.at c.if-journal-at.true

pub returns-then-size-eq0 : goal.returns-then-size-eq0
returns-then-size-eq0 c =
    let given = c.args in
    found_unknown given.journal.now given.at _ _ (search rules) refl c.body_bytes-size.ensures c.if-size-eq0.true

pub returns-then-journal-at-2 : goal.returns-then-journal-at-2
returns-then-journal-at-2 c =
    let given = c.args in
    found_short given.journal.now given.at _ _ (search rules) refl c.body_bytes-size.ensures c.if-size-eq0.false c.if-journal-at-2.true

pub returns : goal.returns
returns c =
    let given = c.args in
    found_whole given.journal.now given.at _ _ (search rules) refl c.body_bytes-size.ensures c.if-size-eq0.false (omega arith)
