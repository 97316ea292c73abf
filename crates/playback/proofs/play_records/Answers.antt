-- The records up to where the loop stands are played. The measure is the number of bytes that are left.
use Prim.Native.Nat.{ℕ, ◌+◌, ◌≤◌}
use mathlib.Core.Path.{◌≡◌, refl, sym, ◌∙◌}
use mathlib.Core.List.{List}
use native.Mathlib.Omega.{arith}
use lib.ListN.{length, drop}
use borrow.Author.Rules.{rules}
use Rattle.playback.specs.declared.Found.{Found}
use Rattle.playback.specs.declared.Found.TheVariants.{Whole}
use Rattle.playback.specs.Playing.{found_in}
use Rattle.playback.proofs.FoundLaws.{whole_found, whole_inside}
use Rattle.playback.proofs.PlayingLaws.{plays_start, plays_more}
use Rattle.playback.proofs.play_records.Goals as goal

-- a whole record that is found ends inside the bytes
ends : (input : List ℕ) (at : ℕ) {next : Found} {kind size : ℕ} → next ≡ found_in (drop at input) → next ≡ Whole kind size → at + 1 + size ≤ length input
ends input at stands is_next = whole_inside input at _ _ (whole_found _ _ _ (sym stands ∙ is_next))

pub loop-next-init : goal.loop-next-init
loop-next-init c =
    let inside = c.requires.written_inside in
    (omega arith, inside, inside, omega arith, c.requires.count_fits, refl, refl, refl, plays_start _ _ _ _ inside, c.requires.sound_before, c.record_at-next.ensures)

pub overflow_add-end : goal.overflow_add-end
overflow_add-end c = omega (arith, ends c.args.input.now c.loop-next.at c.loop-next.invariant.10 c.in-Whole.is)

pub slice_bounds-play_record-end : goal.slice_bounds-play_record-end
slice_bounds-play_record-end c = ends c.args.input.now c.loop-next.at c.loop-next.invariant.10 c.in-Whole.is

pub overflow_add-index : goal.overflow_add-index
overflow_add-index c = omega (arith, ends c.args.input.now c.loop-next.at c.loop-next.invariant.10 c.in-Whole.is)

pub loop-next-smaller : goal.loop-next-smaller
loop-next-smaller c = omega (arith, ends c.args.input.now c.loop-next.at c.loop-next.invariant.10 c.in-Whole.is)

pub loop-next-preserved : goal.loop-next-preserved
loop-next-preserved c =
    let turn = c.loop-next in
    let found = whole_found _ _ _ (sym turn.invariant.10 ∙ c.in-Whole.is) in
    let played = c.play_record-written.ensures in (
      ends c.args.input.now turn.at turn.invariant.10 c.in-Whole.is,
      turn.invariant.1,
      played.writes.fits,
      omega arith,
      turn.invariant.4,
      search rules,
      search rules,
      search rules,
      plays_more _ _ _ _ turn.invariant.1 c.args.input.now turn.at _ _ turn.invariant.8 (omega arith)
          found played.leaves played.writes,
      played.still_sound,
      c.record_at-next-in-Whole.ensures,
    )
