-- Each way out of the checks is that of the rule.
use Rattle.std.specs.Prelude.{Option, Some, None, Ok, Err}
use Prim.Native.Nat.{ℕ, ◌<◌}
use mathlib.Core.Path.{◌≡◌, sym, ◌∙◌}
use mathlib.Core.Bool.{Bool, true, false, not, ◌&&◌}
use mathlib.Core.List.{List, [], ◌∷◌, ◌++◌}
use lib.Dec.{ltb}
use borrow.Author.Tests.{lt-ltb, le-ltb, not-true, not-false}
use Rattle.words.specs.Sizes.{records}
use Rattle.layout.specs.declared.ObjectNumber.{ObjectNumber}
use Rattle.layout.specs.Numbers.{numbered}
use Rattle.layout.proofs.NumberLaws.{numbered_past, numbered_inside}
use Rattle.reply.specs.declared.Refusal.TheVariants.{BadCap, BadCpu, BadPar, NoRoom}
use Rattle.interface.specs.Places.{Cap, State, live, PD, create_bit, object_place, permitted}
use Rattle.interface.specs.Effects.{make, hold}
use Rattle.interface.specs.Verdicts.{Verdict, grant, require◌else◌then◌}
use Rattle.interface.specs.Creations.{free_record, creation}
use Rattle.creation_rule.specs.declared.Creation.{Creation}
use Rattle.creation_rule.specs.CreationRule.{gives, Says, Decides, passed, failed}

-- the rule's last check, and all that follow those of the new place and of the PD's capability
abbrev pub last_check : State → ℕ → ℕ → Creation → List ℕ → Verdict
last_check s domain selector new words =
    require ltb (free_record s) records && new.domain_left else NoRoom then
    grant 0 (make (free_record s) words ∷ gives domain new ++ (hold (object_place domain selector) (free_record s) ∷ []))

abbrev pub own_checks : State → ℕ → ℕ → Creation → List ℕ → Verdict
own_checks s domain selector new words =
    require new.bindable else BadCap then
    require new.cpu_good else BadCpu then
    require new.parameters_good else BadPar then
    last_check s domain selector new words

module _ {s : State} {domain selector pd : ℕ} {new : Creation} where
  module _ {place : ℕ} {cap : Cap} {alive : Bool} (is_place : place ≡ object_place domain selector) (loaded : cap ≡ s.caps place)
      (is_alive : alive ≡ live cap) where
    -- the new place is live
    pub new_live : alive ≡ true → Decides s domain selector pd new (Err BadCap)
    unfolding creation
    new_live t = failed BadCap (record { says = λ c words a. rw (a.in_domain, a.is_first, ← is_place, ← loaded, ← is_alive, t) })

    module _ {pd_at : ℕ} {may : Bool} (null : alive ≡ false) (is_pd : pd_at ≡ object_place domain pd)
        (is_may : may ≡ permitted s pd_at PD (create_bit new.object.0)) where
      -- the PD's capability has not the kind's bit
      pub not_by_pd : not may ≡ true → Decides s domain selector pd new (Err BadCap)
      unfolding creation
      not_by_pd t =
          failed BadCap
          (record {
            says =
                λ c words a.
                rw (a.in_domain, a.is_first, a.is_second, ← is_place, ← loaded, ← is_alive, null, ← is_pd, ← is_may, not-true may t);
          })

      -- it has the bit
      pub goes_on : not may ≡ false → Says s domain selector pd new (own_checks s domain selector new)
      unfolding creation
      goes_on f =
          record {
            says =
                λ c words a.
                rw (a.in_domain, a.is_first, a.is_second, ← is_place, ← loaded, ← is_alive, null, ← is_pd, ← is_may, not-false may f);
          }

  module _ (own : Says s domain selector pd new (own_checks s domain selector new)) where
    -- the EC does not let the object be bound
    pub not_bindable : not new.bindable ≡ true → Decides s domain selector pd new (Err BadCap)
    not_bindable t = failed BadCap (record { says = λ c words a. own.says c words a ∙ (rw (not-true new.bindable t)) })

    module _ (bindable : not new.bindable ≡ false) where
      -- the CPU is none
      pub not_on_cpu : not new.cpu_good ≡ true → Decides s domain selector pd new (Err BadCpu)
      not_on_cpu t =
          failed BadCpu
          (record { says = λ c words a. own.says c words a ∙ (rw (not-false new.bindable bindable, not-true new.cpu_good t)) })

      module _ (on_cpu_lem : not new.cpu_good ≡ false) where
        -- past the tests of binding and of the CPU
        past_cpu : (words : List ℕ) →
            own_checks s domain selector new words ≡ (require new.parameters_good else BadPar then last_check s domain selector new words)
        past_cpu words = rw (not-false new.bindable bindable, not-false new.cpu_good on_cpu_lem)

        -- the parameters are not good
        pub not_good : not new.parameters_good ≡ true → Decides s domain selector pd new (Err BadPar)
        not_good t =
            failed BadPar
            (record { says = λ c words a. own.says c words a ∙ past_cpu words ∙ (rw (not-true new.parameters_good t)) })

        -- they are
        pub goes_last : not new.parameters_good ≡ false → Says s domain selector pd new (last_check s domain selector new)
        goes_last f = record { says = λ c words a. own.says c words a ∙ past_cpu words ∙ (rw (not-false new.parameters_good f)) }

  module _ (last : Says s domain selector pd new (last_check s domain selector new)) {found : (Option ObjectNumber)} (is_free_lem : found ≡ numbered (free_record s)) where
    -- no record is free
    pub no_record : found ≡ None → Decides s domain selector pd new (Err NoRoom)
    no_record e =
        failed NoRoom
        (record {
          says = λ c words a. last.says c words a ∙ (rw (le-ltb (free_record s) records (numbered_past (free_record s) (sym is_free_lem ∙ e))));
        })

    module _ {number : ObjectNumber} (is_number : found ≡ Some number) where
      -- the lowest free record has the number found
      lowest_is : (number.0 ≡ free_record s) × (free_record s < records)
      lowest_is = numbered_inside (free_record s) number (sym is_free_lem ∙ is_number)

      -- no domain is left
      pub no_domain : not new.domain_left ≡ true → Decides s domain selector pd new (Err NoRoom)
      no_domain t =
          failed NoRoom
          (record {
            says = λ c words a. last.says c words a ∙ (rw (lt-ltb (free_record s) records lowest_is.1, not-true new.domain_left t));
          })

      -- the object takes the lowest free record
      pub has_room : not new.parameters_good ≡ false → not new.domain_left ≡ false → Decides s domain selector pd new (Ok number)
      has_room good f =
          passed number (rw lowest_is.0 lowest_is.1) (not-false new.parameters_good good) (not-false new.domain_left f)
          (record {
            says =
                λ c words a.
                last.says c words a ∙ (rw (lt-ltb (free_record s) records lowest_is.1, not-false new.domain_left f, lowest_is.0));
          })
