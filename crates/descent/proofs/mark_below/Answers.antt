-- The places of the domains before the loop's are marked; in each, those of other spaces are passed over.
use Prim.Native.Nat.{◌+◌, ◌*◌, ◌/◌}
use mathlib.Core.Path.{◌≡◌, ap, ◌∙◌}
use native.Mathlib.Omega.{arith}
use lib.Pow.{pow_pos}
use Rattle.marks.specs.PlaceBits.{word_bits}
use Rattle.words.specs.Sizes.{greatest_order, selectors, start, stride, space_of}
use Rattle.words.proofs.PlaceLaws.{space_small, start_rises}
use Rattle.descent.proofs.MarkLaws.{begun, passed, all_told, not_before, not_after, whole_words}
use Rattle.descent.proofs.UnmarkedLaws.{not_below}
use Rattle.descent.proofs.mark_below.Goals as goal
use Rattle.descent.proofs.mark_below.Goals.{After-after-from}

-- where the places of the range's space begin in the loop's domain, and how many they are
there : (c : After-after-from) →
    let space = space_of c.args.range.first.0 in
    (c.after-from.result.0 ≡ c.loop-domain.domain * stride + start space) × (c.selectors-words.result / word_bits * word_bits ≡ selectors space)
there c =
    let of_space = c.space-space.ensures in
    let begins = c.space_start-start.ensures ∙ ap start of_space in (
      omega (arith, c.after-from.ensures, c.first_of.ensures, begins),
      rw (c.selectors-words.ensures, of_space) (whole_words (space_of c.args.range.first.0)),
    )

pub space_start-start-requires : goal.space_start-start-requires
space_start-start-requires c = rw c.space-space.ensures (space_small _)

pub loop-domain-init : goal.loop-domain-init
loop-domain-init c = begun c.blank-known.ensures c.requires.3

pub after-from-requires : goal.after-from-requires
after-from-requires c =
    let from = c.args.range.first.0 in
    omega (
      arith,
      c.first_of.ensures,
      c.space_start-start.ensures ∙ ap start c.space-space.ensures,
      start_rises (space_of from) _ (space_small from),
      pow_pos (greatest_order (space_of from)),
    )

pub mark_run-requires : goal.mark_run-requires
mark_run-requires c =
    let (begins, many) = there (goal.at.mark_run-requires c).After-after-from in
    let from = c.args.range.first.0 in
    let fits = start_rises (space_of from) _ (space_small from) in (
      passed c.loop-domain.invariant _ (omega (arith, begins))
          (λ p low high.
          not_below _ c.requires.1 c.requires.2 p (omega (arith, begins, fits))
          (λ same. not_before c.loop-domain.domain (space_of from) p (space_small from) same low (omega (arith, begins)))),
      omega (arith, begins, many, fits),
    )

pub loop-domain-preserved : goal.loop-domain-preserved
loop-domain-preserved c =
    let (begins, many) = there (goal.at.loop-domain-preserved c).After-after-from in
    let from = c.args.range.first.0 in
    passed c.mark_run.ensures _ (omega (arith, begins, many, start_rises (space_of from) _ (space_small from)))
    (λ p low high.
    not_below _ c.requires.1 c.requires.2 p (omega arith)
    (λ same. not_after c.loop-domain.domain (space_of from) p (space_small from) same (omega (arith, begins, many)) high))

pub returns : goal.returns
returns c =
    all_told c.loop-domain.invariant (omega arith)
