-- A line written into a part of a buffer that is as long as the longest line, and that of a record.
use Prim.Native.Nat.{ℕ, ◌+◌, ◌-◌, ◌≤◌}
use mathlib.Core.Path.{◌≡◌, refl, sym, ap, ◌∙◌}
use mathlib.Core.List.{List, [], ◌∷◌, ◌++◌, append_assoc, append-nil}
use native.Mathlib.Nat.{zero-add}
use native.Mathlib.Omega.{arith}
use lib.ListN.{length, take, drop, length-drop, take-append-drop}
use lib.Seq.{length-take-le, drop-append-le, drop-drop}
use borrow.Author.Tests.{le-ltb}
use borrow.Rule.Slice.PartMut.{put_mid, same_len_mid}
use Rattle.io.specs.Counts.{IsPrefixLen}
use Rattle.endian.specs.Parts.{written}
use Rattle.reply.specs.Replies.{Reply, status_of, answer_of}
use Rattle.interface.specs.Places.{Tables}
use Rattle.interface.specs.Verdicts.{Call}
use Rattle.interface.specs.Rules.{hypercall_reply, hypercall_tables}
use Rattle.interface.specs.History.{hypercalls}
use Rattle.interface.specs.Demand.{tables_after, tables_after_all}
use Rattle.interface.specs.Journal.{recorded_call, done, spelled, spelled_lines, lines_from}
use Rattle.texts.specs.Texts.{Wrote}
use Rattle.texts.proofs.TextLaws.{wrote_same}
use Rattle.journal_lines.specs.declared.Line.{Line}
use Rattle.journal_lines.specs.Lines.{line_of, line_bytes, fitting}

module _ (out : List ℕ) (at : ℕ) (line : Line) (room : at + line_bytes ≤ length out) where
  abbrev part : List ℕ
  part = take (at + line_bytes - at) (drop at out)

  part_size : at + line_bytes - at ≡ line_bytes
  part_size = omega arith

  long : length part ≡ line_bytes
  long = rw part_size (length-take-le line_bytes (drop at out) (omega (arith, length-drop at out)))

  line_fits : fitting part line ≡ spelled (line_of line)
  unfolding fitting
  line_fits = rw (le-ltb (length part) line_bytes (omega (arith, long)))

  pub line_added : (after : List ℕ) (size : ℕ) → length after ≡ length part → after ≡ written part 0 (fitting part line) → size ≡ length (fitting part line) → IsPrefixLen size after →
      Wrote out at (spelled (line_of line)) (put_mid at (at + line_bytes - at) out after) (at + size) × (at + size ≤ at + line_bytes)
  line_added after size kept is_after is_size counts =
      let text = spelled (line_of line) in
      let tail = drop (at + line_bytes - at) (drop at out) in
      let ends : size ≡ length text = rw line_fits at is_size in
      let short : length text ≤ length part = omega (arith, counts.0) in
      let there : after ≡ text ++ drop (length text) part = rw (line_fits, zero-add) at is_after in
      let rest : drop (length text) part ++ tail ≡ drop (at + length text) out =
      sym (drop-append-le (length text) part tail short)
      ∙ ap (drop (length text)) (take-append-drop (at + line_bytes - at) (drop at out))
      ∙ drop-drop (length text) at out in
      let whole = same_len_mid at (at + line_bytes - at) out after kept in (
        record {
          leaves = rw (there, append_assoc text (drop (length text) part) tail, rest) (sym (append_assoc (take at out) text (drop (at + length text) out)));
          ends = ap (λ (k : ℕ). at + k) ends;
          fits = omega (arith, long, counts.0);
        },
        omega (arith, long, counts.0),
      )

-- the tables after one hypercall
pub after_one : (here : Tables) (c : Call) → hypercall_tables here c ≡ tables_after_all here (hypercalls c ∷ [])
unfolding tables_after_all tables_after
after_one here c = refl

-- the line of one hypercall
one_line : (here : Tables) (index kind : ℕ) (c : Call) (status answer : ℕ) → kind ≡ c.number → status ≡ status_of (hypercall_reply here c) →
    answer ≡ answer_of (hypercall_reply here c) → spelled (done index kind status answer) ≡ spelled_lines (lines_from here index (c ∷ []))
unfolding lines_from spelled_lines
one_line here index kind c status answer is_kind is_status is_answer = rw (is_kind, is_status, is_answer) (sym (append-nil _))

same_kind : (kind : ℕ) (body : List ℕ) → kind ≡ (recorded_call kind body).number
unfolding recorded_call
same_kind kind body = refl

pub line_played : (here : Tables) (index kind : ℕ) (body : List ℕ) {reply : Reply} {status answer : ℕ} {out after : List ℕ} {at end : ℕ} →
    reply ≡ hypercall_reply here (recorded_call kind body) → status ≡ status_of reply → answer ≡ answer_of reply → Wrote out at (spelled (done index kind status answer)) after end →
    Wrote out at (spelled_lines (lines_from here index (recorded_call kind body ∷ []))) after end
line_played here index kind body {status = status} {answer = answer} is_reply is_status is_answer wrote =
    wrote_same
    (one_line here index kind (recorded_call kind body) status answer (same_kind kind body) (is_status ∙ ap status_of is_reply) (is_answer ∙ ap answer_of is_reply))
    wrote
