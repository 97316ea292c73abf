-- The hypercall that a record's words and blocks make is the recorded one.
use Prim.Native.Nat.{ℕ, ◌+◌}
use mathlib.Core.Path.{◌≡◌, sym, ap, ◌∙◌}
use mathlib.Core.List.{List, []}
use lib.ListN.{length}
use borrow.Author.Tests.{ne_eqb}
use Rattle.words.specs.Sizes.{block_words}
use Rattle.reply.specs.Replies.{Reply}
use Rattle.interface.specs.Places.{Tables}
use Rattle.interface.specs.Verdicts.{CALL}
use Rattle.interface.specs.Journal.{body_word, recorded_call}
use Rattle.interface.specs.Outcomes.{call_of, answered}
use Rattle.interface.proofs.Tables.TableLaws.{length_listed}
use Rattle.interface.proofs.Tables.VerdictLaws.{answers}
use Rattle.service.specs.Serving.{Serves}

-- a CALL's recorded blocks have their length
pub source_length : (body source : List ℕ) → source ≡ (recorded_call CALL body).source → block_words ≡ length source
unfolding recorded_call
source_length body source e = sym (ap (λ (l : List ℕ). length l) e ∙ length_listed (λ i. body_word body (2 + i)) block_words)

pub target_length : (body target : List ℕ) → target ≡ (recorded_call CALL body).target → block_words ≡ length target
unfolding recorded_call
target_length body target e = sym (ap (λ (l : List ℕ). length l) e ∙ length_listed (λ i. body_word body (2 + block_words + i)) block_words)

-- the words of a body, in their order
pub record Read (body : List ℕ) (caller first second third fourth fifth sixth : ℕ) : Type 0 where
  pub is_caller : caller ≡ body_word body 0
  pub is_first : first ≡ body_word body 1
  pub is_second : second ≡ body_word body 2
  pub is_third : third ≡ body_word body 3
  pub is_fourth : fourth ≡ body_word body 4
  pub is_fifth : fifth ≡ body_word body 5
  pub is_sixth : sixth ≡ body_word body 6

module _ {kind caller first second third fourth fifth sixth : ℕ} {body source target : List ℕ} (words : Read body caller first second third fourth fifth sixth) where
  -- the words read and the record's blocks make its call
  read_so : source ≡ (recorded_call kind body).source → target ≡ (recorded_call kind body).target →
      call_of kind caller first second third fourth fifth sixth source target ≡ recorded_call kind body
  unfolding recorded_call
  read_so is_source is_target =
      rw (
        is_source,
        is_target,
        words.is_caller,
        words.is_first,
        words.is_second,
        words.is_third,
        words.is_fourth,
        words.is_fifth,
        words.is_sixth,
      )

  -- CALL has its blocks from the record, and any other call has none
  call_so : kind ≡ CALL → source ≡ (recorded_call CALL body).source → target ≡ (recorded_call CALL body).target →
      call_of kind caller first second third fourth fifth sixth source target ≡ recorded_call kind body
  call_so is_call is_source is_target =
      read_so (is_source ∙ ap (λ (k : ℕ). (recorded_call k body).source) (sym is_call)) (is_target ∙ ap (λ (k : ℕ). (recorded_call k body).target) (sym is_call))

  other_so : (kind ≡ CALL → ⊥) → source ≡ [] → target ≡ [] →
      call_of kind caller first second third fourth fifth sixth source target ≡ recorded_call kind body
  unfolding recorded_call
  other_so other is_source is_target = read_so (rw (ne_eqb kind CALL other) is_source) (rw (ne_eqb kind CALL other) is_target)

  module _ (here : Tables) {after : Tables} {block : List ℕ} {reply : Reply}
      (ran : Serves (call_of kind caller first second third fourth fifth sixth source target) here after block reply) where
    plays : call_of kind caller first second third fourth fifth sixth source target ≡ recorded_call kind body →
        record { reply = reply; tables = after } ≡ answered here (recorded_call kind body)
    plays same = answers here after reply block (call_of kind caller first second third fourth fifth sixth source target) ran ∙ ap (answered here) same

    pub plays_call : kind ≡ CALL → source ≡ (recorded_call CALL body).source → target ≡ (recorded_call CALL body).target →
        record { reply = reply; tables = after } ≡ answered here (recorded_call kind body)
    plays_call is_call is_source is_target = plays (call_so is_call is_source is_target)

    pub plays_other : (kind ≡ CALL → ⊥) → source ≡ [] → target ≡ [] → record { reply = reply; tables = after } ≡ answered here (recorded_call kind body)
    plays_other other is_source is_target = plays (other_so other is_source is_target)
