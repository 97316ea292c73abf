-- The hypercall that is made is the recorded one.
use mathlib.Core.Path.{refl}
use Rattle.recorded_calls.proofs.PlayLaws.{source_length, target_length, Read, plays_call, plays_other}
use Rattle.recorded_calls.proofs.play.Goals as goal
use Rattle.recorded_calls.proofs.play.Goals.{After-body_word-6}

-- the words that are read are the body's
words_read : (c : After-body_word-6) →
    Read c.args.body.now c.body_word-caller.result c.body_word.result c.body_word-2.result c.body_word-3.result c.body_word-4.result c.body_word-5.result
    c.body_word-6.result
words_read c =
    record {
      is_caller = c.body_word-caller.ensures;
      is_first = c.body_word.ensures;
      is_second = c.body_word-2.ensures;
      is_third = c.body_word-3.ensures;
      is_fourth = c.body_word-4.ensures;
      is_fifth = c.body_word-5.ensures;
      is_sixth = c.body_word-6.ensures;
    }

pub slice_bounds-serve-end : goal.slice_bounds-serve-end
slice_bounds-serve-end c = source_length _ _ c.source.ensures

pub slice_bounds-serve-end-then-kind-eq-CALL : goal.slice_bounds-serve-end-then-kind-eq-CALL
slice_bounds-serve-end-then-kind-eq-CALL c = target_length _ _ c.target.ensures

pub returns-then-kind-eq-CALL : goal.returns-then-kind-eq-CALL
returns-then-kind-eq-CALL c =
    let served = c.serve.ensures in
    let is_source = c.source.ensures in
    let is_target = c.target.ensures in
    let words = words_read (goal.at.returns-then-kind-eq-CALL c).After-body_word-6 in
    record { answers = plays_call words _ served.serves c.if-kind-eq-CALL.true is_source is_target; sound_after = served.sound_after }

pub slice_bounds-serve-end-2 : goal.slice_bounds-serve-end-2
slice_bounds-serve-end-2 c = refl

pub slice_bounds-serve-end-3 : goal.slice_bounds-serve-end-3
slice_bounds-serve-end-3 c = refl

pub returns : goal.returns
returns c =
    let served = c.serve-2.ensures in
    let words = words_read (goal.at.returns c).After-body_word-6 in
    record { answers = plays_other words _ served.serves c.if-kind-eq-CALL.false refl refl; sound_after = served.sound_after }
