-- What a CALL with a message of one item comes to, by its two blocks.
use Prim.Native.Nat.{ℕ}
use mathlib.Core.Path.{◌≡◌, ap₂, ◌∙◌}
use mathlib.Core.List.{List}
use Rattle.reply.specs.Replies.{Reply}
use Rattle.interface.specs.Places.{tables}
use Rattle.interface.specs.Verdicts.{CALL}
use Rattle.interface.specs.Outcomes.{call_of, outcome, answered}
use Rattle.interface.proofs.Tables.VerdictLaws.{answers}
use Rattle.requests.specs.Requests.{Asked}
use Rattle.messages.specs.Messages.{item_block, window_block, with_one_item}

module _ (places objects places_after objects_after : List ℕ) (reply : Reply) where
  -- a message's two blocks are all that a CALL has of it
  pub asked_one_item : (block : List ℕ) (caller portal item second window : ℕ) (source target : List ℕ) → source ≡ item_block item second → target ≡ window_block window →
      record { reply = reply; tables = tables places_after objects_after; block = block } ≡ outcome (tables places objects) (call_of CALL caller portal 0 0 0 0 0 source target) →
      Asked places objects places_after objects_after reply (with_one_item caller portal item second window)
  asked_one_item block caller portal item second window source target is_source is_target ran =
      answers (tables places objects) (tables places_after objects_after) reply block (call_of CALL caller portal 0 0 0 0 0 source target) ran ∙
      ap₂ (λ (s t : List ℕ). answered (tables places objects) (call_of CALL caller portal 0 0 0 0 0 s t)) is_source is_target
