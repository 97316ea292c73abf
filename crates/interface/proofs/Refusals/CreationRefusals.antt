-- Each refusal of a creation has exactly its cause.
use Rattle.std.specs.Prelude.{Err, Ok}
use Prim.Native.Nat.{ℕ, ◌≤◌, ◌<◌}
use mathlib.Core.Path.{◌≡◌, refl, ap, ◌∙◌}
use mathlib.Core.Logic.{◌↔◌, ◌⊎◌, inl, inr}
use mathlib.Core.Bool.{Bool, true, false, not, ◌&&◌, true≢false, and_comm}
use mathlib.Core.List.{List, [], ◌∷◌}
use native.Mathlib.Omega.{arith}
use lib.Dec.{eqb, ltb}
use borrow.Author.Tests.{ltb-true, ltb-false, le-ltb, eqb-false, ne_eqb, not-true}
use Rattle.words.specs.Sizes.{domains, object, records}
use Rattle.descriptor.specs.declared.Range.{Range}
use Rattle.descriptor.specs.declared.Reading.{Reading}
use Rattle.descriptor.specs.declared.Reading.TheVariants.{Null, Malformed, Good}
use Rattle.reply.specs.Replies.{status_of, Reply}
use Rattle.reply.specs.declared.Refusal.TheVariants.{BadCap, BadPar, BadCpu, NoRoom}
use Rattle.interface.specs.Basics.{any, member}
use Rattle.interface.specs.Places.{State, live, PD, EC, SC, PT, SM, create_bit, bind_sc_bit, bind_pt_bit, permitted}
use Rattle.interface.specs.Boot.{cpus}
use Rattle.interface.specs.Damage.{sound_state, is_ec}
use Rattle.interface.specs.RangeDescriptors.{reading}
use Rattle.interface.specs.Effects.{Effect}
use Rattle.interface.specs.Verdicts.{Call, CREATE_PD, CREATE_EC, CREATE_SC, CREATE_PT, CREATE_SM, Verdict, refuse, grant, require◌else◌then◌, reply_of}
use Rattle.interface.specs.Creations.{new_place, pd_place, ec_place, free_record, next_domain, Creation, creation, initial_good, priority, quantum, create_pd, create_ec, create_sc, create_pt, create_sm}
use Rattle.interface.specs.Rules.{hypercall, rules}
use Rattle.interface.specs.Refusals.{MayCreate, MayBind, NoRecordFree, NoDomainLeft, BadInitial, BadQpd, CreationsRefusedExactly}
use Rattle.interface.proofs.Basics.BoolLaws.{cases, and_left, and_right, both, one_choice}
use Rattle.interface.proofs.Sound.Soundness.{Sound, sound_facts}
use Rattle.interface.proofs.Sound.SoundObjects.{free_there, used_below_free}
use Rattle.interface.proofs.Sound.SoundFacts.{home, numbered_home}
use Rattle.interface.proofs.Sound.CreationsFit.{steps_of}
use Rattle.interface.proofs.Refusals.ChecksInTurn.{Decides, decided, decides_other, decides_fact, decides_contrary, decides_both, IsRefusal, Check, checked, Cause, Passed, all_among, verdict_in_turn}
use Rattle.interface.proofs.Refusals.RefusalLaws.{by_rule, refused_exactly, granted_exactly, passed_grants, no_other, decides_holding}

-- a creation asks for its capabilities in one, then for the CPU, the parameters and room
creation_asks : (s : State) (c : Call) (new : Creation) →
    creation s c new ≡
    (require new.bindable && (not (live (s.caps (new_place s c))) && permitted s (pd_place s c) PD (create_bit new.kind)) else BadCap then
    require new.cpu_good else BadCpu then
    require new.parameters_good else BadPar then
    require new.domain_left && ltb (free_record s) records else NoRoom then
    grant 0 (steps_of s c new))
unfolding creation
creation_asks s c new =
    let null = not (live (s.caps (new_place s c))) in
    let by_pd = permitted s (pd_place s c) PD (create_bit new.kind) in
    let last : Bool → Verdict =
    λ room.
    require new.cpu_good else BadCpu then
    require new.parameters_good else BadPar then
    require room else NoRoom then
    grant 0 (steps_of s c new) in
    let left = ltb (free_record s) records in
    let room = left && new.domain_left in
    one_choice null by_pd (require new.bindable else BadCap then last room) (refuse BadCap) ∙ one_choice (null && by_pd) new.bindable (last room) (refuse BadCap) ∙
    ap (λ (test : Bool). require test else BadCap then last room) (and_comm (null && by_pd) new.bindable) ∙
    ap (λ (test : Bool). require new.bindable && (null && by_pd) else BadCap then last test) (and_comm left new.domain_left)

-- the tests of a creation decide its facts
module _ (s : State) (c : Call) (k : Sound s) (e : is_ec s c.caller ≡ true) where
  decides_create : (kind : ℕ) →
      Decides (not (live (s.caps (new_place s c))) && permitted s (pd_place s c) PD (create_bit kind)) (MayCreate s c kind) (MayCreate s c kind → ⊥)
  decides_create kind =
      let permissions = (s.caps (new_place s c)).permissions in
      let null = not (live (s.caps (new_place s c))) in
      let by_pd = permitted s (pd_place s c) PD (create_bit kind) in
      let pd = decides_holding s k c.caller e c.second PD (create_bit kind) in
      decides_fact (null && by_pd)
      (λ h.
      record {
        new_null = omega (arith, ltb-false 0 permissions (not-true (ltb 0 permissions) (and_left null by_pd h)));
        by_pd = pd.holds (and_right null by_pd h);
      })
      (λ may.
      let none : ltb 0 permissions ≡ false = le-ltb 0 permissions (omega (arith, may.new_null)) in
      both null by_pd (rw none) (decided pd may.by_pd))

  decides_bind : (kind bit : ℕ) →
      Decides (permitted s (ec_place s c) EC bit && (not (live (s.caps (new_place s c))) && permitted s (pd_place s c) PD (create_bit kind))) (MayBind s c kind bit)
      (MayBind s c kind bit → ⊥)
  decides_bind kind bit =
      let by_ec = permitted s (ec_place s c) EC bit in
      let may = not (live (s.caps (new_place s c))) && permitted s (pd_place s c) PD (create_bit kind) in
      let ec = decides_holding s k c.caller e c.third EC bit in
      decides_fact (by_ec && may)
      (λ h. record { may_create = (decides_create kind).holds (and_right by_ec may h); by_ec = ec.holds (and_left by_ec may h) })
      (λ b. both by_ec may (decided ec b.by_ec) (decided (decides_create kind) b.may_create))

  decides_record : Decides (ltb (free_record s) records) (NoRecordFree s → ⊥) (NoRecordFree s)
  decides_record =
      decides_contrary (ltb (free_record s) records)
      (λ f number small. used_below_free s number (omega (arith, ltb-false (free_record s) records f)))
      (λ full.
      cases (ltb (free_record s) records)
      (λ (t : ltb (free_record s) records ≡ true).
      let room : free_record s < records = ltb-true (free_record s) records t in
      absurd (full (free_record s) room (free_there s room)))
      (λ (f : ltb (free_record s) records ≡ false). f))

  decides_domain : Decides (ltb (next_domain s) domains) (NoDomainLeft s → ⊥) (NoDomainLeft s)
  decides_domain =
      decides_contrary (ltb (next_domain s) domains)
      (λ f domain some small. numbered_home s k domain some (omega (arith, ltb-false (next_domain s) domains f)))
      (λ none. le-ltb (next_domain s) domains (omega (arith, (home s k 7 (none 7 (omega arith) (omega arith))).taken)))

  decides_room : Decides (ltb (next_domain s) domains && ltb (free_record s) records) (NoDomainLeft s ⊎ NoRecordFree s → ⊥) (NoDomainLeft s ⊎ NoRecordFree s)
  decides_room = decides_both (ltb (next_domain s) domains) (ltb (free_record s) records) decides_domain decides_record

-- the tests of parameters
initial_bad : (read : Reading) → initial_good read ≡ false → (read ≡ Malformed) ⊎ ((range : Range) × (read ≡ Good range) × (range.space ≡ object → ⊥))
initial_bad Null h = absurd (true≢false h)
initial_bad Malformed h = inl refl
initial_bad (Good range) h = inr (range, refl, eqb-false range.space object h)

bad_initial : (read : Reading) → (read ≡ Malformed) ⊎ ((range : Range) × (read ≡ Good range) × (range.space ≡ object → ⊥)) → initial_good read ≡ false
bad_initial read (inl e) = rw e
bad_initial read (inr (range, e, other)) = rw e (ne_eqb range.space object other)

decides_initial : (c : Call) → Decides (initial_good (reading c.third)) (BadInitial c → ⊥) (BadInitial c)
decides_initial c = decides_contrary (initial_good (reading c.third)) (initial_bad (reading c.third)) (bad_initial (reading c.third))

decides_qpd : (c : Call) → Decides (not (eqb (priority c.fourth) 0) && not (eqb (quantum c.fourth) 0)) (BadQpd c → ⊥) (BadQpd c)
decides_qpd c =
    decides_both (not (eqb (priority c.fourth) 0)) (not (eqb (quantum c.fourth) 0)) (decides_other (priority c.fourth) 0) (decides_other (quantum c.fourth) 0)

decides_cpu : (cpu : ℕ) → Decides (ltb cpu cpus) (cpu ≤ 3) (3 < cpu)
decides_cpu cpu =
    record {
      holds = λ h. omega (arith, ltb-true cpu cpus h);
      fails = λ h. omega (arith, ltb-false cpu cpus h);
      apart = λ l g. omega arith;
    }

-- a call is granted with answer 0
abbrev pub Grants : State → Call → Type 0
Grants s c = (effects : List Effect) × (rules s c ≡ grant 0 effects)

-- a call's verdict that is its checks' in turn, and then such a grant
abbrev Checked : State → Call → List Check → Type 0
Checked s c checks = (effects : List Effect) × (rules s c ≡ verdict_in_turn checks (grant 0 effects))

module _ (s : State) (c : Call) (checks : List Check) (is : Checked s c checks) where
  creation_refused : (refusal : Reply) → IsRefusal refusal → (reply_of (rules s c) ≡ refusal) ↔ Cause checks refusal
  creation_refused = refused_exactly s c checks (grant 0 is.0) 0 refl is.1

  creation_granted : (reply_of (rules s c) ≡ Ok 0) ↔ Passed checks
  creation_granted = granted_exactly s c checks (grant 0 is.0) 0 refl is.1

  creation_grants : reply_of (rules s c) ≡ Ok 0 → Grants s c
  creation_grants g = (is.0, passed_grants s c checks (grant 0 is.0) 0 refl is.1 g)

  creation_status : (statuses : List ℕ) → member 0 statuses ≡ true → all_among statuses checks ≡ true → member (status_of (reply_of (rules s c))) statuses ≡ true
  creation_status = no_other s c checks (grant 0 is.0) 0 refl is.1

-- the checks of each creation
module _ (s : State) (c : Call) (sound : sound_state s ≡ true) (e : is_ec s c.caller ≡ true) where
  abbrev pd_checks : List Check
  pd_checks =
      checked (decides_create s c (sound_facts s sound) e PD) BadCap refl ∷ checked (decides_initial c) BadPar refl ∷
      checked (decides_room s c (sound_facts s sound) e) NoRoom refl ∷ []

  pd_checked : c.number ≡ CREATE_PD → Checked s c pd_checks
  unfolding hypercall create_pd
  pd_checked n = (_, by_rule s c CREATE_PD create_pd refl sound e n ∙ creation_asks s c _)

  pub pd_grants : c.number ≡ CREATE_PD → reply_of (rules s c) ≡ Ok 0 → Grants s c
  pd_grants n = creation_grants s c pd_checks (pd_checked n)

  abbrev ec_checks : List Check
  ec_checks =
      checked (decides_create s c (sound_facts s sound) e EC) BadCap refl ∷ checked (decides_cpu c.third) BadCpu refl ∷
      checked (decides_record s c (sound_facts s sound) e) NoRoom refl ∷ []

  ec_checked : c.number ≡ CREATE_EC → Checked s c ec_checks
  unfolding hypercall create_ec
  ec_checked n = (_, by_rule s c CREATE_EC create_ec refl sound e n ∙ creation_asks s c _)

  pub ec_grants : c.number ≡ CREATE_EC → reply_of (rules s c) ≡ Ok 0 → Grants s c
  ec_grants n = creation_grants s c ec_checks (ec_checked n)

  abbrev sc_checks : List Check
  sc_checks =
      checked (decides_bind s c (sound_facts s sound) e SC bind_sc_bit) BadCap refl ∷ checked (decides_qpd c) BadPar refl ∷
      checked (decides_record s c (sound_facts s sound) e) NoRoom refl ∷ []

  sc_checked : c.number ≡ CREATE_SC → Checked s c sc_checks
  unfolding hypercall create_sc
  sc_checked n = (_, by_rule s c CREATE_SC create_sc refl sound e n ∙ creation_asks s c _)

  pub sc_grants : c.number ≡ CREATE_SC → reply_of (rules s c) ≡ Ok 0 → Grants s c
  sc_grants n = creation_grants s c sc_checks (sc_checked n)

  abbrev pt_checks : List Check
  pt_checks =
      checked (decides_bind s c (sound_facts s sound) e PT bind_pt_bit) BadCap refl ∷ checked (decides_record s c (sound_facts s sound) e) NoRoom refl ∷ []

  pt_checked : c.number ≡ CREATE_PT → Checked s c pt_checks
  unfolding hypercall create_pt
  pt_checked n = (_, by_rule s c CREATE_PT create_pt refl sound e n ∙ creation_asks s c _)

  pub pt_grants : c.number ≡ CREATE_PT → reply_of (rules s c) ≡ Ok 0 → Grants s c
  pt_grants n = creation_grants s c pt_checks (pt_checked n)

  abbrev sm_checks : List Check
  sm_checks =
      checked (decides_create s c (sound_facts s sound) e SM) BadCap refl ∷ checked (decides_record s c (sound_facts s sound) e) NoRoom refl ∷ []

  sm_checked : c.number ≡ CREATE_SM → Checked s c sm_checks
  unfolding hypercall create_sm
  sm_checked n = (_, by_rule s c CREATE_SM create_sm refl sound e n ∙ creation_asks s c _)

  pub sm_grants : c.number ≡ CREATE_SM → reply_of (rules s c) ≡ Ok 0 → Grants s c
  sm_grants n = creation_grants s c sm_checks (sm_checked n)

pub creations_refused_exactly : CreationsRefusedExactly
unfolding member any
creations_refused_exactly =
    record {
      create_pd_lem =
          record {
            pd_bad_cap = λ s c sound e n. creation_refused s c (pd_checks s c sound e) (pd_checked s c sound e n) (Err BadCap) refl;
            pd_bad_par = λ s c sound e n. creation_refused s c (pd_checks s c sound e) (pd_checked s c sound e n) (Err BadPar) refl;
            pd_no_room = λ s c sound e n. creation_refused s c (pd_checks s c sound e) (pd_checked s c sound e n) (Err NoRoom) refl;
            pd_granted = λ s c sound e n. creation_granted s c (pd_checks s c sound e) (pd_checked s c sound e n);
            pd_no_other = λ s c sound e n. creation_status s c (pd_checks s c sound e) (pd_checked s c sound e n) (0 ∷ 4 ∷ 5 ∷ 16 ∷ []) refl refl;
          };
      create_ec_lem =
          record {
            ec_bad_cap = λ s c sound e n. creation_refused s c (ec_checks s c sound e) (ec_checked s c sound e n) (Err BadCap) refl;
            ec_bad_cpu = λ s c sound e n. creation_refused s c (ec_checks s c sound e) (ec_checked s c sound e n) (Err BadCpu) refl;
            ec_no_room = λ s c sound e n. creation_refused s c (ec_checks s c sound e) (ec_checked s c sound e n) (Err NoRoom) refl;
            ec_granted = λ s c sound e n. creation_granted s c (ec_checks s c sound e) (ec_checked s c sound e n);
            ec_no_other = λ s c sound e n. creation_status s c (ec_checks s c sound e) (ec_checked s c sound e n) (0 ∷ 4 ∷ 7 ∷ 16 ∷ []) refl refl;
          };
      create_sc_lem =
          record {
            sc_bad_cap = λ s c sound e n. creation_refused s c (sc_checks s c sound e) (sc_checked s c sound e n) (Err BadCap) refl;
            sc_bad_par = λ s c sound e n. creation_refused s c (sc_checks s c sound e) (sc_checked s c sound e n) (Err BadPar) refl;
            sc_no_room = λ s c sound e n. creation_refused s c (sc_checks s c sound e) (sc_checked s c sound e n) (Err NoRoom) refl;
            sc_granted = λ s c sound e n. creation_granted s c (sc_checks s c sound e) (sc_checked s c sound e n);
            sc_no_other = λ s c sound e n. creation_status s c (sc_checks s c sound e) (sc_checked s c sound e n) (0 ∷ 4 ∷ 5 ∷ 16 ∷ []) refl refl;
          };
      create_pt_lem =
          record {
            pt_bad_cap = λ s c sound e n. creation_refused s c (pt_checks s c sound e) (pt_checked s c sound e n) (Err BadCap) refl;
            pt_no_room = λ s c sound e n. creation_refused s c (pt_checks s c sound e) (pt_checked s c sound e n) (Err NoRoom) refl;
            pt_granted = λ s c sound e n. creation_granted s c (pt_checks s c sound e) (pt_checked s c sound e n);
            pt_no_other = λ s c sound e n. creation_status s c (pt_checks s c sound e) (pt_checked s c sound e n) (0 ∷ 4 ∷ 16 ∷ []) refl refl;
          };
      create_sm_lem =
          record {
            sm_bad_cap = λ s c sound e n. creation_refused s c (sm_checks s c sound e) (sm_checked s c sound e n) (Err BadCap) refl;
            sm_no_room = λ s c sound e n. creation_refused s c (sm_checks s c sound e) (sm_checked s c sound e n) (Err NoRoom) refl;
            sm_granted = λ s c sound e n. creation_granted s c (sm_checks s c sound e) (sm_checked s c sound e n);
            sm_no_other = λ s c sound e n. creation_status s c (sm_checks s c sound e) (sm_checked s c sound e n) (0 ∷ 4 ∷ 16 ∷ []) refl refl;
          };
    }
