-- The reply and the tables are the rule's for each self word, each reading of the descriptor and each mask; the places cut are the range's in the caller's domain.
use mathlib.Core.Path.{◌≡◌, sym, ◌∙◌}
use native.Mathlib.Omega.{arith}
use lib.Pow.{pow_pos}
use Rattle.descriptor.specs.declared.Range.{Range}
use Rattle.descriptor.specs.declared.Reading.TheVariants.{Good}
use Rattle.descriptor.specs.Descriptors.{Proper, reading}
use Rattle.descriptor.proofs.DescriptorLaws.{reading_kept, good_proper, proper_order}
use Rattle.descent.proofs.LinkLaws.{sound_linked}
use Rattle.capabilities.proofs.CallerLaws.{sized_places, called_sound}
use Rattle.revocation.proofs.RevokeLaws.{Aimed, aims, range_ends, range_in_space, self_refused, malformed_refused, null_revokes, mask_refused, range_revokes}
use Rattle.revocation.proofs.revoke.Goals as goal
use Rattle.revocation.proofs.revoke.Goals.{After-mask, After-read}

-- what is read is what the descriptor says
is_reading : (c : After-read) → reading c.args.descriptor ≡ c.read.result
is_reading c = sym (rw (c.from_word.ensures, reading_kept) at c.read.ensures)

-- a range that is read is a proper one
is_proper : (c : After-read) {range : Range} → c.read.result ≡ Good range → Proper range
is_proper c is_good = good_proper _ _ (is_reading c ∙ is_good)

-- the range's places and mask, as the code finds them
is_aimed : (c : After-mask) →
    Aimed c.domain-domain.result c.in-Good.range c.mask.result c.of-first.result.0
    c.size-size.result
is_aimed c =
    aims _ c.mask.ensures c.space-space.ensures c.at.ensures.0 c.of-first.ensures
    c.order.ensures c.size-size.ensures

pub returns-then-self_word-gt1 : goal.returns-then-self_word-gt1
returns-then-self_word-gt1 c call is_caller is_first is_second = self_refused c.requires c.if-self_word-gt1.true call is_second

pub returns-then-mask_is_outside : goal.returns-then-mask_is_outside
returns-then-mask_is_outside c call is_caller is_first is_second =
    mask_refused c.requires c.if-self_word-gt1.false (is_reading (goal.at.returns-then-mask_is_outside c).After-read ∙ c.in-Good.is)
    c.mask_is_outside.ensures c.if-mask_is_outside.true call is_first is_second

pub at-requires : goal.at-requires
at-requires c = (is_proper (goal.at.at-requires c).After-read c.in-Good.is, pow_pos _)

pub of-first-requires : goal.of-first-requires
of-first-requires c = (
  c.domain-domain.ensures.1,
  omega (arith, c.space-space.ensures, (is_proper (goal.at.of-first-requires c).After-read c.in-Good.is).space_small),
  rw c.space-space.ensures c.at.ensures.1,
)

pub size-size-requires : goal.size-size-requires
size-size-requires c = omega (arith, c.order.ensures, proper_order (is_proper (goal.at.size-size-requires c).After-read c.in-Good.is))

pub invariant_of-cut : goal.invariant_of-cut
invariant_of-cut c =
    record { ends = range_ends (is_aimed (goal.at.invariant_of-cut c).After-mask) (is_proper (goal.at.invariant_of-cut c).After-read c.in-Good.is) c.domain-domain.ensures.1 }

pub cut-requires : goal.cut-requires
cut-requires c =
    let called = c.requires in (
      sized_places called,
      sound_linked _ (called_sound called),
      range_in_space (is_aimed (goal.at.cut-requires c).After-mask) (is_proper (goal.at.cut-requires c).After-read c.in-Good.is) c.domain-domain.ensures.1,
    )

pub returns-in-Null : goal.returns-in-Null
returns-in-Null c call is_caller is_first is_second =
    null_revokes c.requires c.if-self_word-gt1.false (is_reading (goal.at.returns-in-Null c).After-read ∙ c.in-Null.is) call is_first is_second

pub returns-in-Malformed : goal.returns-in-Malformed
returns-in-Malformed c call is_caller is_first is_second =
    malformed_refused c.requires c.if-self_word-gt1.false (is_reading (goal.at.returns-in-Malformed c).After-read ∙ c.in-Malformed.is) call is_first is_second

pub returns-else-mask_is_outside : goal.returns-else-mask_is_outside
returns-else-mask_is_outside c call is_caller is_first is_second =
    range_revokes c.requires c.if-self_word-gt1.false (is_reading (goal.at.returns-else-mask_is_outside c).After-read ∙ c.in-Good.is)
    c.mask_is_outside.ensures c.if-mask_is_outside.false c.domain-domain.ensures.0 (is_aimed (goal.at.returns-else-mask_is_outside c).After-mask) c.cut.ensures call is_caller is_first is_second
