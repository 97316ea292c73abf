-- Positions in the buffers, records played in a front part of a buffer, turns one after the other, and what boot leaves.
use Prim.Native.Nat.{ℕ, ◌+◌, ◌-◌, ◌≤◌}
use mathlib.Core.Path.{◌≡◌, refl, sym, ◌∙◌, subst}
use mathlib.Core.Bool.{Bool, true, false}
use mathlib.Core.List.{List, []}
use native.Mathlib.Numerals.{add-one}
use native.Mathlib.Omega.{arith}
use lib.Dec.{eqb}
use lib.ListN.{length, take, length-take}
use borrow.Author.Tests.{eq-eqb}
use lib.Seq.{length-take-le}
use Rattle.interface.specs.Places.{Tables, sized, place_table_words, object_table_words, tables}
use Rattle.interface.specs.Damage.{sound}
use Rattle.interface.specs.Demand.{from_boot}
use Rattle.interface.proofs.Basics.BoolLaws.{both}
use Rattle.playback.specs.Playing.{is_whole}
use Rattle.playback.proofs.PlayingLaws.{sound_from_boot}
use Rattle.turns.specs.declared.Progress.{Progress}
use Rattle.turns.specs.Buffers.{Inside, line_start, last_after, Turn, Standing, Follows, Turns}

-- what holds of a front part of the input buffer holds of the buffer
module _ (input : List ℕ) (count : ℕ) {progress : Progress} {out : List ℕ} where
  pub inside_whole : Inside progress (take count input) out → Inside progress input out
  inside_whole part =
      let front = length-take count input in record { next = part.next; read = omega arith; lines = part.lines; long = part.long }

  pub turn_whole : count ≤ length input → {before after : Tables} {index start other : ℕ} {last final : Bool} {out_before : List ℕ} → start ≡ other → last ≡ final →
      Turn (take count input) last before index out_before start after out progress → Turn (take progress.filled input) final before index out_before other after out progress
  turn_whole fits {before} {after} {index} {start} {other} {last} {final} {out_before} same same_last turn =
      let all : progress.filled ≡ count = turn.all_read ∙ length-take-le count input fits in
      subst (λ (k : ℕ). Turn (take k input) final before index out_before other after out progress) (sym all)
      (subst (λ (k : ℕ). Turn (take count input) final before index out_before k after out progress) same
      (subst (λ (b : Bool). Turn (take count input) b before index out_before start after out progress) same_last turn))

-- where the next line goes, and whether the bytes are the last, by the code's test
module _ (progress : Progress) (tested : Bool) (test : tested ≡ is_whole progress.next) where
  pub line_start_front : tested ≡ true → 0 ≡ line_start progress
  unfolding line_start
  line_start_front t = let whole : is_whole progress.next ≡ true = sym test ∙ t in rw whole

  pub line_start_after : tested ≡ false → progress.waiting ≡ line_start progress
  unfolding line_start
  line_start_after f = let other : is_whole progress.next ≡ false = sym test ∙ f in rw other

  pub last_front : tested ≡ true → (later : Progress) → progress.is_last ≡ last_after progress later
  unfolding last_after
  last_front t later = let whole : is_whole progress.next ≡ true = sym test ∙ t in rw whole

  pub last_after_lem : tested ≡ false → (later : Progress) (filled kept : ℕ) → later.filled ≡ filled → kept ≡ progress.filled - progress.at →
      eqb filled kept ≡ last_after progress later
  unfolding last_after
  last_after_lem f later filled kept is_filled is_kept = let other : is_whole progress.next ≡ false = sym test ∙ f in rw (other, is_filled, is_kept)

-- no turn, and one turn more
pub turns_none : (start : Standing) → Turns 0 start start
unfolding Turns
turns_none start = refl

pub turns_more : (start : Standing) {before after : Standing} (count : ℕ) → Turns count start before → Follows before after → Turns (count + 1) start after
unfolding Turns
turns_more start {before} count turns follows = rw add-one (before, turns, follows)

-- what boot leaves of tables of the right lengths is sound
pub booted_sound : (places objects : List ℕ) {after : Tables} → length places ≡ place_table_words → length objects ≡ object_table_words →
    (sized (tables places objects) ≡ true → after ≡ from_boot []) → sound after ≡ true
unfolding sized
booted_sound places objects is_places is_objects booted =
    sound_from_boot
    (booted (both _ _ (eq-eqb (length places) place_table_words is_places) (eq-eqb (length objects) object_table_words is_objects)))
