-- The checks are the rule's, in its order; the message goes from the caller's domain to the callee's.
use Prim.Native.Nat.{ℕ}
use mathlib.Core.Path.{◌≡◌, sym, ap, ◌∙◌}
use mathlib.Core.Logic.{◌≢◌}
use mathlib.Core.Bool.{true, not}
use native.Mathlib.Omega.{arith}
use borrow.Author.Rules.{rules}
use borrow.Author.Tests.{eqb-true, eqb-false, not-true, not-false}
use Rattle.interface.specs.Basics.{word}
use Rattle.interface.specs.Places.{Cap, PT, ec_word, cpu_word, call_bit, permitted, object_at, view}
use Rattle.interface.specs.Message.{payload_fits}
use Rattle.capabilities.proofs.CallerLaws.{sized_places, sized_objects, called_sound, caller_small}
use Rattle.delegation.proofs.LiveLinkLaws.{sound_live}
use Rattle.portals.proofs.PortalLaws.{Lengths, Permitted, source_other, target_other, not_permitted, portal_record, callee_small, receiver_small, calls_itself, other_cpu, too_long, carries}
use Rattle.portals.proofs.call.Goals as goal
use Rattle.portals.proofs.call.Goals.{After-bound_by-callee, After-load-2, After-object_place-place, Else-eq, Else-load, Else-not-is_permitted, Else-not-payload_fits}

-- the blocks have their lengths, and the place is the one that the call names
lengths : (c : After-object_place-place) →
    let given = c.args in
    Lengths given.places.now given.objects.now given.source.now given.target.now given.caller.0 given.selector c.object_place-place.result.0
lengths c =
    record {
      called = c.requires;
      source_length = omega arith;
      target_length = omega arith;
      is_place = rw c.domain-sender.ensures.0 at c.object_place-place.ensures.0;
    }

-- the place holds the portal with the permission
allowed : (c : Else-not-is_permitted) →
    let given = c.args in
    permitted (view given.places.now given.objects.now) c.object_place-place.result.0 PT call_bit ≡ true
allowed c = sym c.is_permitted.ensures ∙ not-false _ (ap not c.if-not-is_permitted.false)

-- the call may use its portal, whose EC is read
permits : (c : After-load-2) →
    let given = c.args in
    Permitted given.places.now given.objects.now given.source.now given.target.now given.caller.0 given.selector
    c.object_place-place.result.0 c.load-2.result
permits c =
    record {
      lengths = record {
        called = c.requires;
        source_length = omega arith;
        target_length = omega arith;
        is_place = rw c.domain-sender.ensures.0 at c.object_place-place.ensures.0;
      };
      allowed = sym c.is_permitted.ensures ∙ not-false _ (ap not c.if-not-is_permitted.false);
      is_callee =
          c.load-2.ensures ∙
          ap (λ (n : ℕ). object_at c.args.objects.now n ec_word)
          (c.named_by-portal.ensures ∙ ap (λ (cap : Cap). cap.resource) c.load.ensures);
    }

-- the callee
has_callee : (c : After-bound_by-callee) →
    let given = c.args in
    Permitted given.places.now given.objects.now given.source.now given.target.now given.caller.0 given.selector
    c.object_place-place.result.0 c.load-2.result →
    Permitted given.places.now given.objects.now given.source.now given.target.now given.caller.0 given.selector
    c.object_place-place.result.0 c.bound_by-callee.result.0
has_callee c may_use = rw c.bound_by-callee.ensures may_use

-- it is not the caller
apart : (c : Else-eq) → c.bound_by-callee.result.0 ≢ c.args.caller.0
apart c = eqb-false _ _ (sym c.eq.ensures ∙ c.if-eq.false)

-- both are on one CPU
one_cpu : (c : Else-load) →
    let objects = c.args.objects.now in
    object_at objects c.bound_by-callee.result.0 cpu_word ≡ object_at objects c.args.caller.0 cpu_word
one_cpu c = sym c.load-3.ensures ∙ c.if-load.false ∙ c.load-4.ensures

-- the counts fit
fits : (c : Else-not-payload_fits) → payload_fits (word c.args.source.now 0) ≡ true
fits c = sym c.payload_fits.ensures ∙ not-false _ (ap not c.if-not-payload_fits.false)

pub returns-then-source-ne-BLOCK_WORDS : goal.returns-then-source-ne-BLOCK_WORDS
returns-then-source-ne-BLOCK_WORDS c = source_other c.requires c.if-source-ne-BLOCK_WORDS.true

pub returns-then-target-ne-BLOCK_WORDS : goal.returns-then-target-ne-BLOCK_WORDS
returns-then-target-ne-BLOCK_WORDS c = target_other c.requires (search rules) c.if-target-ne-BLOCK_WORDS.true

pub is_permitted-requires : goal.is_permitted-requires
is_permitted-requires c =
    let called = c.requires in (sized_places called, sized_objects called, c.object_place-place.ensures.1, omega arith)

pub returns-then-not-is_permitted : goal.returns-then-not-is_permitted
returns-then-not-is_permitted c = not_permitted (lengths (goal.at.returns-then-not-is_permitted c).After-object_place-place) (sym c.is_permitted.ensures ∙ not-true _ (ap not c.if-not-is_permitted.true))

pub load-requires : goal.load-requires
load-requires c = (sized_places c.requires, c.object_place-place.ensures.1)

pub named_by-portal-requires : goal.named_by-portal-requires
named_by-portal-requires c = portal_record (lengths (goal.at.named_by-portal-requires c).After-object_place-place) (allowed (goal.at.named_by-portal-requires c).Else-not-is_permitted) c.load.ensures

pub load-requires-2 : goal.load-requires-2
load-requires-2 c = (
  sized_objects c.requires,
  rw c.named_by-portal.ensures
      (portal_record (lengths (goal.at.load-requires-2 c).After-object_place-place) (allowed (goal.at.load-requires-2 c).Else-not-is_permitted)
      c.load.ensures),
  omega arith,
)

pub bound_by-callee-requires : goal.bound_by-callee-requires
bound_by-callee-requires c = callee_small (permits (goal.at.bound_by-callee-requires c).After-load-2)

pub returns-then-eq : goal.returns-then-eq
returns-then-eq c = calls_itself (has_callee (goal.at.returns-then-eq c).After-bound_by-callee (permits (goal.at.returns-then-eq c).After-load-2)) (eqb-true _ _ (sym c.eq.ensures ∙ c.if-eq.true))

pub load-requires-3 : goal.load-requires-3
load-requires-3 c = (sized_objects c.requires, callee_small (has_callee (goal.at.load-requires-3 c).After-bound_by-callee (permits (goal.at.load-requires-3 c).After-load-2)), omega arith)

pub load-requires-4 : goal.load-requires-4
load-requires-4 c = (sized_objects c.requires, caller_small c.requires, omega arith)

pub returns-then-load : goal.returns-then-load
returns-then-load c =
    other_cpu (has_callee (goal.at.returns-then-load c).After-bound_by-callee (permits (goal.at.returns-then-load c).After-load-2)) (apart (goal.at.returns-then-load c).Else-eq)
    (λ same. c.if-load.true (c.load-3.ensures ∙ same ∙ sym c.load-4.ensures))

pub bounds-source-0 : goal.bounds-source-0
bounds-source-0 c = omega (arith, (lengths (goal.at.bounds-source-0 c).After-object_place-place).source_length)

pub returns-then-not-payload_fits : goal.returns-then-not-payload_fits
returns-then-not-payload_fits c =
    too_long (has_callee (goal.at.returns-then-not-payload_fits c).After-bound_by-callee (permits (goal.at.returns-then-not-payload_fits c).After-load-2)) (apart (goal.at.returns-then-not-payload_fits c).Else-eq) (one_cpu (goal.at.returns-then-not-payload_fits c).Else-load)
    (sym c.payload_fits.ensures ∙ not-true _ (ap not c.if-not-payload_fits.true))

pub load-receiver-requires : goal.load-receiver-requires
load-receiver-requires c = (sized_objects c.requires, callee_small (has_callee (goal.at.load-receiver-requires c).After-bound_by-callee (permits (goal.at.load-receiver-requires c).After-load-2)), omega arith)

pub message-requires : goal.message-requires
message-requires c =
    let called = c.requires in
    let callee = has_callee (goal.at.message-requires c).After-bound_by-callee (permits (goal.at.message-requires c).After-load-2) in (
      sized_places called,
      sound_live _ (called_sound called),
      c.domain-sender.ensures.1,
      rw c.load-receiver.ensures (receiver_small callee),
      record { source_length = callee.lengths.source_length; target_length = callee.lengths.target_length; fits = fits (goal.at.message-requires c).Else-not-payload_fits },
    )

pub returns : goal.returns
returns c =
    carries (has_callee (goal.at.returns c).After-bound_by-callee (permits (goal.at.returns c).After-load-2)) (apart (goal.at.returns c).Else-eq) (one_cpu (goal.at.returns c).Else-load) (fits (goal.at.returns c).Else-not-payload_fits) c.domain-sender.ensures.0
    c.load-receiver.ensures c.message.ensures
