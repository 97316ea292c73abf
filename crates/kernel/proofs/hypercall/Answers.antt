-- Sound tables are served, and damaged ones refused.
use mathlib.Core.Path.{sym, ◌∙◌}
use Rattle.interface.specs.Verdicts.{Call}
use Rattle.interface.specs.Outcomes.{call_of}
use Rattle.kernel.proofs.FaceLaws.{going_on, damaged_outcome}
use Rattle.kernel.proofs.hypercall.Goals as goal
use Rattle.kernel.proofs.hypercall.Goals.{Start}

-- the call that the arguments make
abbrev call_by : Start → Call
call_by c =
    let given = c.args in
    call_of given.number given.caller given.first given.second given.third given.fourth given.fifth given.sixth given.source.now
    given.target.now

pub serve-requires : goal.serve-requires
serve-requires c = sym c.is_sound.ensures ∙ c.if-is_sound.true

pub returns-then-is_sound : goal.returns-then-is_sound
returns-then-is_sound c = record { is_outcome = c.serve.ensures.serves; goes_on = (going_on _ _ _ c.serve.ensures.serves).1 }

pub returns : goal.returns
returns c =
    let by = call_by (goal.at.returns c).Start in
    let refused = damaged_outcome _ _ by (sym c.is_sound.ensures ∙ c.if-is_sound.false) in
    record { is_outcome = refused; goes_on = (going_on _ by _ refused).1 }
