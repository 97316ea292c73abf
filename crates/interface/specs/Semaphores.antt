-- SM_CTRL.
use Rattle.std.specs.Prelude.{ℕ, ◌+◌, ◌-◌, [], ◌∷◌, eqb, leb, ltb, if◌then◌else◌}
use Rattle.words.specs.Fields.{greatest_word}
use Rattle.reply.specs.declared.Refusal.TheVariants.{ComTim, BadCap, BadPar}
use Rattle.interface.specs.Places.{State, SM, count_word, object_place, permitted, object_in}
use Rattle.interface.specs.Effects.{count}
use Rattle.interface.specs.Verdicts.{Call, Verdict, grant, require◌else◌then◌, caller_domain}

-- the operations, which are also the numbers of their permissions' bits
abbrev pub up : ℕ
up = 0

abbrev pub down : ℕ
down = 1

-- SM_CTRL: selector, operation. Up adds 1 to the count, which may not pass the greatest word; down takes 1 away, and does not wait at 0
unfoldable pub sm_ctrl : State → Call → Verdict
sm_ctrl s c =
    let place = object_place (caller_domain s c) c.first in
    let value = s.objects (object_in s place) count_word in
    require leb c.second down else BadPar then
    require permitted s place SM c.second else BadCap then
    if eqb c.second up then
    (require ltb value greatest_word else BadPar then
    grant 0 (count (object_in s place) (value + 1) ∷ []))
    else
    (require ltb 0 value else ComTim then
    grant 0 (count (object_in s place) (value - 1) ∷ []))
