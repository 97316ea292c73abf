-- Laws of checks in turn: a reply that is chosen by tests, each of which decides a fact, is a refusal exactly where the first test that fails has that refusal.
use Prim.Native.Nat.{ℕ, ◌≤◌, ◌<◌}
use mathlib.Core.Path.{◌≡◌, refl, sym, ap, ◌∙◌}
use mathlib.Core.Logic.{◌↔◌, ◌⊎◌, inl, inr, ⊎_elim}
use mathlib.Core.Bool.{Bool, true, false, not, cond, ◌&&◌, ◌||◌, false≢true}
use mathlib.Core.List.{List, [], ◌∷◌}
use native.Mathlib.Omega.{arith}
use lib.Dec.{eqb, leb, ltb}
use borrow.Author.Tests.{ltb-true, ltb-false, leb-true, leb-false, eqb-true, eqb-false, not-true, not-false}
use Rattle.reply.specs.Replies.{status_of, Reply}
use Rattle.reply.specs.declared.Refusal.{Refusal}
use Rattle.reply.specs.declared.Refusal.TheVariants.{ComTim, BadCap, BadPar, BadCpu, NoRoom}
use Rattle.std.specs.Prelude.{if◌then◌else◌, Ok, Err}
use Rattle.interface.specs.Basics.{member}
use Rattle.interface.specs.Verdicts.{Verdict, require◌else◌then◌, reply_of}
use Rattle.interface.proofs.Basics.BoolLaws.{cases, not_both, and_left, and_right, or_none_left, or_none_right, either_way}

-- a test decides between a fact and its contrary: the one follows where it holds, the other where it fails, and never both
pub record Decides (test : Bool) (fact contrary : Type 0) : Type 0 where
  pub holds : test ≡ true → fact
  pub fails : test ≡ false → contrary
  pub apart : fact → contrary → ⊥

-- where the fact holds the test does
pub decided : {test : Bool} {fact contrary : Type 0} → Decides test fact contrary → fact → test ≡ true
decided {test} d f = cases test (λ (t : test ≡ true). t) (λ (n : test ≡ false). absurd (d.apart f (d.fails n)))

-- the tests of numbers decide
pub decides_at_most : (a b : ℕ) → Decides (leb a b) (a ≤ b) (b < a)
decides_at_most a b = record { holds = leb-true a b; fails = leb-false a b; apart = λ l g. omega arith }

pub decides_below : (a b : ℕ) → Decides (ltb a b) (a < b) (b ≤ a)
decides_below a b = record { holds = ltb-true a b; fails = ltb-false a b; apart = λ l g. omega arith }

pub decides_inside : (a b : ℕ) → Decides (not (leb b a)) (a < b) (b ≤ a)
decides_inside a b =
    record {
      holds = λ h. leb-false b a (not-true (leb b a) h);
      fails = λ h. leb-true b a (not-false (leb b a) h);
      apart = λ l g. omega arith;
    }

pub decides_some : (a : ℕ) → Decides (ltb 0 a) (0 < a) (a ≡ 0)
decides_some a = record { holds = ltb-true 0 a; fails = λ h. omega (arith, ltb-false 0 a h); apart = λ l g. omega arith }

pub decides_equal : (a b : ℕ) → Decides (eqb a b) (a ≡ b) (a ≡ b → ⊥)
decides_equal a b = record { holds = eqb-true a b; fails = eqb-false a b; apart = λ e n. n e }

pub decides_other : (a b : ℕ) → Decides (not (eqb a b)) (a ≡ b → ⊥) (a ≡ b)
decides_other a b =
    record {
      holds = λ h. eqb-false a b (not-true (eqb a b) h);
      fails = λ h. eqb-true a b (not-false (eqb a b) h);
      apart = λ n e. n e;
    }

-- a test that holds exactly where a fact does decides it, and so does one that fails exactly there
pub decides_fact : {fact : Type 0} (test : Bool) → (test ≡ true → fact) → (fact → test ≡ true) → Decides test fact (fact → ⊥)
decides_fact test f g =
    record { holds = f; fails = λ h x. not_both test (g x) h; apart = λ x n. n x }

pub decides_contrary : {contrary : Type 0} (test : Bool) → (test ≡ false → contrary) → (contrary → test ≡ false) → Decides test (contrary → ⊥) contrary
decides_contrary test f g =
    record { holds = λ h x. not_both test h (g x); fails = f; apart = λ n x. n x }

-- a test that has to fail decides whether it holds
pub decides_not : (test : Bool) → Decides (not test) (test ≡ true → ⊥) (test ≡ true)
decides_not test = decides_contrary (not test) (not-false test) (λ h. rw h)

-- two tests, each of which fails exactly where a contrary holds, fail together exactly where one of the contraries holds
pub decides_both : {one other : Type 0} (a b : Bool) → Decides a (one → ⊥) one → Decides b (other → ⊥) other → Decides (a && b) (one ⊎ other → ⊥) (one ⊎ other)
decides_both {one} {other} true b d e =
    record {
      holds = λ h. ⊎_elim (λ (x : one). d.holds refl x) (λ (x : other). e.holds h x);
      fails = λ h. inr (e.fails h);
      apart = λ n x. n x;
    }
decides_both {one} {other} false b d e = record { holds = λ h. absurd (false≢true h); fails = λ h. inl (d.fails refl); apart = λ n x. n x }

-- the refusal of a status, of those that a call's own checks have
abbrev pub refusal_of : ℕ → Reply
refusal_of status =
    Err (if eqb status 1 then ComTim else if eqb status 4 then BadCap else if eqb status 5 then BadPar else if eqb status 7 then BadCpu else NoRoom)

-- a reply is one of them
abbrev pub IsRefusal : Reply → Type 0
IsRefusal reply = refusal_of (status_of reply) ≡ reply

-- two refusals of one status are the same, and SUCCESS is none
pub same_refusal : (a b : Reply) → IsRefusal a → IsRefusal b → eqb (status_of a) (status_of b) ≡ true → a ≡ b
same_refusal a b ra rb h = sym ra ∙ ap refusal_of (eqb-true (status_of a) (status_of b) h) ∙ rb

pub success_no_refusal : (reply : Reply) (answer : ℕ) → IsRefusal reply → reply ≡ Ok answer → ⊥
success_no_refusal reply answer r e =
    let z : status_of reply ≡ 0 = ap status_of e in
    let n : Err NoRoom ≡ reply = rw z at r in
    omega (arith, ap status_of n)

-- a check: a test that decides a fact, and the refusal where it fails
pub record Check : Type 1 where
  pub test : Bool
  pub fact : Type 0
  pub contrary : Type 0
  pub decides : Decides test fact contrary
  pub refusal : Refusal
  pub is_refusal : IsRefusal (Err refusal)

abbrev pub checked : {test : Bool} {fact contrary : Type 0} → Decides test fact contrary → (refusal : Refusal) → IsRefusal (Err refusal) → Check
checked {test} {fact} {contrary} decides refusal is =
    record { test = test; fact = fact; contrary = contrary; decides = decides; refusal = refusal; is_refusal = is }

-- the reply of checks in turn: the refusal of the first that fails, or else the last reply
abbrev pub in_turn : List Check → Reply → Reply
in_turn [] last = last
in_turn (check ∷ checks) last = cond check.test (in_turn checks last) (Err check.refusal)

-- whether some check has a refusal
abbrev pub has_refusal : List Check → Reply → Bool
has_refusal [] reply = false
has_refusal (check ∷ checks) reply = eqb (status_of (Err check.refusal)) (status_of reply) || has_refusal checks reply

-- why checks in turn give a refusal: a check that has it fails, and those before it hold
abbrev pub Cause : List Check → Reply → Type 0
Cause [] reply = ⊥
Cause (check ∷ checks) reply =
    cond
    (eqb (status_of (Err check.refusal)) (status_of reply))
    (cond (has_refusal checks reply) (check.contrary ⊎ (check.fact × Cause checks reply)) check.contrary)
    (cond (has_refusal checks reply) (check.fact × Cause checks reply) ⊥)

-- each check holds
abbrev pub Passed : List Check → Type 0
Passed [] = Unit {0}
Passed (check ∷ []) = check.fact
Passed (check ∷ next ∷ checks) = check.fact × Passed (next ∷ checks)

-- one check before others
one_check : (test here more : Bool) (fact contrary rest : Type 0) (reply next refusal : Reply) → Decides test fact contrary → (here ≡ true → reply ≡ refusal) →
    (here ≡ false → reply ≡ refusal → ⊥) → (more ≡ false → next ≡ refusal → ⊥) → (next ≡ refusal) ↔ rest →
    (cond test next reply ≡ refusal) ↔ cond here (cond more (contrary ⊎ (fact × rest)) contrary) (cond more (fact × rest) ⊥)
one_check true true true fact contrary rest reply next refusal d same other never later = (
  λ e. inr (d.holds refl, later.0 e),
  ⊎_elim (λ (x : contrary). absurd (d.apart (d.holds refl) x)) (λ (x : fact × rest). later.1 x.1),
)
one_check true true false fact contrary rest reply next refusal d same other never later =
    (λ e. absurd (never refl e), λ x. absurd (d.apart (d.holds refl) x))
one_check true false true fact contrary rest reply next refusal d same other never later = (λ e. (d.holds refl, later.0 e), λ x. later.1 x.1)
one_check true false false fact contrary rest reply next refusal d same other never later = (λ e. absurd (never refl e), λ x. absurd x)
one_check false true true fact contrary rest reply next refusal d same other never later = (λ e. inl (d.fails refl), λ x. same refl)
one_check false true false fact contrary rest reply next refusal d same other never later = (λ e. d.fails refl, λ x. same refl)
one_check false false true fact contrary rest reply next refusal d same other never later =
    (λ e. absurd (other refl e), λ x. absurd (d.apart x.0 (d.fails refl)))
one_check false false false fact contrary rest reply next refusal d same other never later = (λ e. absurd (other refl e), λ x. absurd x)

-- a choice of two replies that are not a third is not that
pub neither_reply : (test : Bool) (a b reply : Reply) → (a ≡ reply → ⊥) → (b ≡ reply → ⊥) → cond test a b ≡ reply → ⊥
neither_reply true a b reply f g e = f e
neither_reply false a b reply f g e = g e

module _ (last refusal : Reply) (apart : last ≡ refusal → ⊥) where
  -- a refusal that no check has is not given
  never_given : (checks : List Check) → has_refusal checks refusal ≡ false → in_turn checks last ≡ refusal → ⊥
  never_given [] h = apart
  never_given (check ∷ checks) h =
      let same = eqb (status_of (Err check.refusal)) (status_of refusal) in
      neither_reply check.test (in_turn checks last) (Err check.refusal) refusal (never_given checks (or_none_right same (has_refusal checks refusal) h))
      (λ e. eqb-false (status_of (Err check.refusal)) (status_of refusal) (or_none_left same (has_refusal checks refusal) h) (ap status_of e))

  -- checks in turn give a refusal exactly where it has a cause
  pub caused_exactly : IsRefusal refusal → (checks : List Check) → (in_turn checks last ≡ refusal) ↔ Cause checks refusal
  caused_exactly is [] = (apart, λ x. absurd x)
  caused_exactly is (check ∷ checks) =
      one_check check.test (eqb (status_of (Err check.refusal)) (status_of refusal)) (has_refusal checks refusal) check.fact check.contrary (Cause checks refusal)
      (Err check.refusal) (in_turn checks last) refusal check.decides (same_refusal (Err check.refusal) refusal check.is_refusal is)
      (λ h e. eqb-false (status_of (Err check.refusal)) (status_of refusal) h (ap status_of e)) (never_given checks) (caused_exactly is checks)

-- what holds of no refusal holds of the reply of checks in turn exactly where each holds, and it holds of the last reply
module _ (P : Reply → Type 0) (none : (reply : Reply) → IsRefusal reply → P reply → ⊥) (last : Reply) where
  one_passed : (test : Bool) (fact contrary : Type 0) (reply next : Reply) → Decides test fact contrary → IsRefusal reply → P (cond test next reply) → fact × P next
  one_passed true fact contrary reply next d r p = (d.holds refl, p)
  one_passed false fact contrary reply next d r p = absurd (none reply r p)

  one_passes : (test : Bool) (fact contrary : Type 0) (reply next : Reply) → Decides test fact contrary → fact → P next → P (cond test next reply)
  one_passes true fact contrary reply next d f p = p
  one_passes false fact contrary reply next d f p = absurd (d.apart f (d.fails refl))

  pub each_passed : (checks : List Check) → P (in_turn checks last) → Passed checks × P last
  each_passed [] p = (tt, p)
  each_passed (check ∷ []) p = one_passed check.test check.fact check.contrary (Err check.refusal) last check.decides check.is_refusal p
  each_passed (check ∷ next ∷ checks) p =
      let here = one_passed check.test check.fact check.contrary (Err check.refusal) (in_turn (next ∷ checks) last) check.decides check.is_refusal p in
      let later = each_passed (next ∷ checks) here.1 in
      ((here.0, later.0), later.1)

  pub each_passes : (checks : List Check) → Passed checks → P last → P (in_turn checks last)
  each_passes [] f p = p
  each_passes (check ∷ []) f p = one_passes check.test check.fact check.contrary (Err check.refusal) last check.decides f p
  each_passes (check ∷ next ∷ checks) f p =
      one_passes check.test check.fact check.contrary (Err check.refusal) (in_turn (next ∷ checks) last) check.decides f.0
      (each_passes (next ∷ checks) f.1 p)

-- whether the status of each check is among some
abbrev pub all_among : List ℕ → List Check → Bool
all_among statuses [] = true
all_among statuses (check ∷ checks) = member (status_of (Err check.refusal)) statuses && all_among statuses checks

-- then so is that of the reply
pub status_among : (statuses : List ℕ) (last : Reply) → member (status_of last) statuses ≡ true → (checks : List Check) → all_among statuses checks ≡ true →
    member (status_of (in_turn checks last)) statuses ≡ true
status_among statuses last h [] all = h
status_among statuses last h (check ∷ checks) all =
    let first = member (status_of (Err check.refusal)) statuses in
    either_way (λ (reply : Reply). member (status_of reply) statuses ≡ true) check.test (in_turn checks last) (Err check.refusal)
    (status_among statuses last h checks (and_right first (all_among statuses checks) all)) (and_left first (all_among statuses checks) all)

-- a verdict of checks in turn, and its reply
abbrev pub verdict_in_turn : List Check → Verdict → Verdict
verdict_in_turn [] last = last
verdict_in_turn (check ∷ checks) last = require check.test else check.refusal then verdict_in_turn checks last

reply_required : (test : Bool) (refusal : Refusal) (next : Verdict) → reply_of (require test else refusal then next) ≡ cond test (reply_of next) (Err refusal)
reply_required true refusal next = refl
reply_required false refusal next = refl

pub reply_in_turn : (checks : List Check) (last : Verdict) → reply_of (verdict_in_turn checks last) ≡ in_turn checks (reply_of last)
reply_in_turn [] last = refl
reply_in_turn (check ∷ checks) last =
    reply_required check.test check.refusal (verdict_in_turn checks last) ∙ ap (λ (reply : Reply). cond check.test reply (Err check.refusal)) (reply_in_turn checks last)

-- where each check is passed the last verdict stands
pub last_stands : (checks : List Check) (last : Verdict) → Passed checks → verdict_in_turn checks last ≡ last
last_stands [] last f = refl
last_stands (check ∷ []) last f = rw (decided check.decides f)
last_stands (check ∷ next ∷ checks) last f = rw (decided check.decides f.0) (last_stands (next ∷ checks) last f.1)
