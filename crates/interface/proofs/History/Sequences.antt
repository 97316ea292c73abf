-- Steps in turn: a sound state stays sound, and a history follows.
use mathlib.Core.Path.{refl, sym, ap, ◌∙◌, subst}
use mathlib.Core.List.{List, [], ◌∷◌}
use Rattle.interface.specs.Places.{State}
use Rattle.interface.specs.Effects.{Effect, give, make, hold, cut, store, act, run}
use Rattle.interface.specs.History.{History, told, note, note_all}
use Rattle.interface.proofs.Sound.Soundness.{Sound}
use Rattle.interface.proofs.Tables.Steps.{Fits, FitInTurn}
use Rattle.interface.proofs.Sound.SoundPlaces.{give_sound, hold_sound}
use Rattle.interface.proofs.Sound.CutSound.{cut_sound}
use Rattle.interface.proofs.Sound.SoundObjects.{make_sound, store_sound}
use Rattle.interface.proofs.History.HistoryLaws.{Valid}
use Rattle.interface.proofs.History.NoteLaws.{Follows, give_follows, hold_follows, make_follows, store_follows, cut_follows}

-- a step that fits leaves a sound state sound
pub step_sound : (effect : Effect) (s : State) → Sound s → Fits effect s → Sound (act effect s)
step_sound (give destination source mask) s sound fit = give_sound s destination source mask sound fit
step_sound (make number words) s sound fit = make_sound s number words sound fit
step_sound (hold place number) s sound fit = hold_sound s place number sound fit
step_sound (cut mask first size self) s sound fit = cut_sound s mask first size self sound fit
step_sound (store number from words) s sound fit = store_sound s number from words sound fit

pub run_sound : (effects : List Effect) (s : State) → Sound s → FitInTurn effects s → Sound (run effects s)
unfolding run
run_sound [] s sound fit = sound
run_sound (effect ∷ effects) s sound fit = run_sound effects (act effect s) (step_sound effect s sound fit.0) fit.1

-- a history follows a step that fits
pub note_follows : (effect : Effect) (h : History) → Valid h → Sound (told h) → Fits effect (told h) → Follows (note effect h) (act effect (told h))
note_follows (give destination source mask) h valid sound fit = give_follows h valid destination source mask fit
note_follows (make number words) h valid sound fit = make_follows h valid number words fit
note_follows (hold place number) h valid sound fit = hold_follows h valid place number sound fit
note_follows (cut mask first size self) h valid sound fit = cut_follows h valid mask first size self
note_follows (store number from words) h valid sound fit = store_follows h valid number from words fit

pub notes_follow : (effects : List Effect) (h : History) → Valid h → Sound (told h) → FitInTurn effects (told h) → Follows (note_all effects h) (run effects (told h))
unfolding run note_all
notes_follow [] h valid sound fit = (refl, valid)
notes_follow (effect ∷ effects) h valid sound fit =
    let one = note_follows effect h valid sound fit.0 in
    let sound' : Sound (told (note effect h)) = subst Sound (sym one.0) (step_sound effect (told h) sound fit.0) in
    let fit' : FitInTurn effects (told (note effect h)) = subst (FitInTurn effects) (sym one.0) fit.1 in
    let rest = notes_follow effects (note effect h) one.1 sound' fit' in
    (rest.0 ∙ ap (run effects) one.0, rest.1)
