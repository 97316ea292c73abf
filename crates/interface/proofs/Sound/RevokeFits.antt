-- REVOKE's steps fit: its range lies in the caller's domain, which is not domain 0.
use Prim.Native.Nat.{ℕ, ◌+◌, ◌^◌, ◌≤◌}
use mathlib.Core.Path.{◌≡◌}
use mathlib.Core.Bool.{Bool, true, not}
use native.Mathlib.Omega.{arith}
use lib.Dec.{eqb, leb, ltb}
use borrow.Author.Tests.{leb-true}
use Rattle.reply.specs.declared.Refusal.{Refusal}
use Rattle.words.specs.Sizes.{place_of}
use Rattle.descriptor.specs.declared.Reading.{Reading}
use Rattle.descriptor.specs.declared.Reading.TheVariants.{Null, Malformed, Good}
use Rattle.reply.specs.Replies.{Reply}
use Rattle.reply.specs.declared.Refusal.TheVariants.{BadPar}
use Rattle.interface.specs.Places.{State}
use Rattle.interface.specs.Boot.{hypervisor}
use Rattle.interface.specs.Damage.{is_ec}
use Rattle.interface.specs.RangeDescriptors.{reading, malformed}
use Rattle.interface.specs.Verdicts.{Call, Verdict, refuse, grant, require◌else◌then◌, effects_of, caller_domain}
use Rattle.interface.specs.Revoke.{mask_is_outside, cuts, revoke}
use Rattle.interface.proofs.Basics.BoolLaws.{and_left}
use Rattle.interface.proofs.Sound.Soundness.{Sound}
use Rattle.interface.proofs.Tables.Steps.{FitInTurn}
use Rattle.interface.proofs.Sound.PlaceFacts.{home_not_hypervisor}
use Rattle.interface.proofs.Tables.TurnLaws.{require_so}
use Rattle.interface.proofs.Sound.SoundFacts.{ec_home}

-- a range of a domain other than 0 begins past domain 0
cuts_fit : (s : State) (domain : ℕ) (self : Bool) (read : Reading) → (domain ≡ hypervisor → ⊥) → FitInTurn (cuts domain self read) s
cuts_fit s domain self Null h = tt
cuts_fit s domain self Malformed h = tt
cuts_fit s domain self (Good range) h =
    let first = place_of domain range.space range.base in
    let size = 2 ^ range.order in (
      record
          { outside = λ place t e. let from : first ≤ place = leb-true first place (and_left (leb first place) (ltb place (first + size)) t) in omega arith },
      tt,
    )

-- what holds of every refusal, and of the steps of the descriptor's revocation, holds of REVOKE
pub revoke_so : (P : Verdict → Type 0) (s : State) (c : Call) → ((refusal : Refusal) → P (refuse refusal)) →
    P (grant 0 (cuts (caller_domain s c) (eqb c.second 1) (reading c.first))) → P (revoke s c)
unfolding revoke
revoke_so P s c refused f =
    let read = reading c.first in
    let granted = grant 0 (cuts (caller_domain s c) (eqb c.second 1) read) in
    let masked = require not (mask_is_outside read) else BadPar then granted in
    require_so P (leb c.second 1) BadPar (require not (malformed read) else BadPar then masked) (refused BadPar)
    (λ _. require_so P (not (malformed read)) BadPar masked (refused BadPar)
    (λ _. require_so P (not (mask_is_outside read)) BadPar granted (refused BadPar) (λ _. f)))

-- the caller's domain has a PD, so it is not domain 0
pub revoke_fits : (s : State) (c : Call) → Sound s → is_ec s c.caller ≡ true → FitInTurn (effects_of (revoke s c)) s
revoke_fits s c k e =
    revoke_so (λ (verdict : Verdict). FitInTurn (effects_of verdict) s) s c (λ reply. tt)
    (cuts_fit s (caller_domain s c) (eqb c.second 1) (reading c.first) (home_not_hypervisor s (caller_domain s c) k (ec_home s k c.caller e)))
