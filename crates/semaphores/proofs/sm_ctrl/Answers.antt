-- The checks are the rule's, in its order, and the count that is stored is the rule's step.
use mathlib.Core.Bool.{not}
use Prim.Native.Nat.{◌<◌}
use mathlib.Core.Path.{◌≡◌, sym, ap, ◌∙◌}
use native.Mathlib.Omega.{arith}
use borrow.Author.Rules.{rules}
use borrow.Author.Tests.{not-true, not-false}
use Rattle.words.specs.Sizes.{records}
use Rattle.interface.specs.Places.{Cap}
use Rattle.capabilities.proofs.CallerLaws.{sized_places, sized_objects}
use Rattle.semaphores.proofs.SemaphoreLaws.{known_operation, is_up, is_down, named, Allowed, Counted, unknown_operation, not_permitted, semaphore_record, full, raised, empty, lowered}
use Rattle.semaphores.proofs.sm_ctrl.Goals as goal
use Rattle.semaphores.proofs.sm_ctrl.Goals.{After-load-count, After-named_by-number, After-object_place-place, Else-not-is_permitted}

-- the place is the one that the call names
is_named : (c : After-object_place-place) →
    let given = c.args in
    c.object_place-place.result.0 ≡ named given.objects.now given.caller.0 given.selector
is_named c = rw c.domain.ensures.0 at c.object_place-place.ensures.0

-- the call passes the first two checks
passes : (c : Else-not-is_permitted) →
    let given = c.args in
    Allowed given.places.now given.objects.now given.caller.0 given.selector given.operation c.object_place-place.result.0
passes c =
    record {
      called = c.requires;
      known = known_operation _ c.in-Ok.operation c.in-Ok.ensures;
      is_place = is_named (goal.at.Else-not-is_permitted c).After-object_place-place;
      allowed = rw (c.number.ensures, c.in-Ok.ensures) at (sym c.is_permitted.ensures ∙ not-false _ (ap not c.if-not-is_permitted.false));
    }

-- the semaphore's number is a record's
is_record : (c : After-named_by-number) → c.named_by-number.result.0 < records
is_record c = rw c.named_by-number.ensures (semaphore_record (passes (goal.at.After-named_by-number c).Else-not-is_permitted) c.load.ensures)

-- the semaphore and its count
counted : (c : After-load-count) →
    let given = c.args in
    Counted given.places.now given.objects.now given.caller.0 given.selector given.operation
    c.object_place-place.result.0 c.named_by-number.result.0 c.load-count.result
counted c =
    record {
      call = passes (goal.at.After-load-count c).Else-not-is_permitted;
      is_number = c.named_by-number.ensures ∙ ap (λ (cap : Cap). cap.resource) c.load.ensures;
      is_value = c.load-count.ensures;
    }

-- an operation that no semaphore has is refused first,
-- whatever the caller may do
pub returns-in_default : goal.returns-in_default
returns-in_default c = unknown_operation c.requires c.in_default.ensures

pub is_permitted-requires : goal.is_permitted-requires
is_permitted-requires c =
    let called = c.requires in
    (sized_places called, sized_objects called, c.object_place-place.ensures.1, omega (arith, c.number.ensures, c.in-Ok.ensures, known_operation _ c.in-Ok.operation c.in-Ok.ensures))

pub returns-then-not-is_permitted : goal.returns-then-not-is_permitted
returns-then-not-is_permitted c =
    not_permitted c.requires (known_operation _ c.in-Ok.operation c.in-Ok.ensures) (is_named (goal.at.returns-then-not-is_permitted c).After-object_place-place)
    (rw (c.number.ensures, c.in-Ok.ensures) at (sym c.is_permitted.ensures ∙ not-true _ (ap not c.if-not-is_permitted.true)))

pub load-requires : goal.load-requires
load-requires c = search (sized_places, rules)

pub named_by-number-requires : goal.named_by-number-requires
named_by-number-requires c = semaphore_record (passes (goal.at.named_by-number-requires c).Else-not-is_permitted) c.load.ensures

pub load-count-requires : goal.load-count-requires
load-count-requires c = (sized_objects (passes (goal.at.load-count-requires c).Else-not-is_permitted).called, is_record (goal.at.load-count-requires c).After-named_by-number, omega arith)

pub returns-then-count : goal.returns-then-count
returns-then-count c = full (counted (goal.at.returns-then-count c).After-load-count) (is_up c.in-Up.is c.in-Ok.ensures) c.if-count.true

pub set_count-requires : goal.set_count-requires
set_count-requires c = (sized_objects (counted (goal.at.set_count-requires c).After-load-count).call.called, is_record (goal.at.set_count-requires c).After-named_by-number)

pub returns-else-count : goal.returns-else-count
returns-else-count c =
    raised (counted (goal.at.returns-else-count c).After-load-count) (is_up c.in-Up.is c.in-Ok.ensures) (omega arith) c.set_count.ensures

pub returns-then-count-eq0 : goal.returns-then-count-eq0
returns-then-count-eq0 c = empty (counted (goal.at.returns-then-count-eq0 c).After-load-count) (is_down c.in-Down.is c.in-Ok.ensures) c.if-count-eq0.true

pub set_count-requires-in-Down : goal.set_count-requires-in-Down
set_count-requires-in-Down c = (sized_objects (counted (goal.at.set_count-requires-in-Down c).After-load-count).call.called, is_record (goal.at.set_count-requires-in-Down c).After-named_by-number)

pub returns-else-count-eq0 : goal.returns-else-count-eq0
returns-else-count-eq0 c =
    lowered (counted (goal.at.returns-else-count-eq0 c).After-load-count) (is_down c.in-Down.is c.in-Ok.ensures) c.if-count-eq0.false
    c.set_count-in-Down.ensures
