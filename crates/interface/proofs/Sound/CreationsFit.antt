-- The steps of each creation fit: the new object keeps the rules of its kind, the initial delegations go to the new domain, and the new place stays null until it is filled.
use Prim.Native.Nat.{ℕ, ◌+◌, ◌^◌, ◌≤◌, ◌<◌}
use mathlib.Core.Path.{◌≡◌, refl, sym, ap, ◌∙◌, subst}
use mathlib.Core.Bool.{true, false, not, ◌&&◌}
use mathlib.Core.List.{List, [], ◌∷◌, ◌++◌}
use native.Mathlib.Omega.{arith}
use lib.Dec.{eqb, leb, ltb}
use lib.ListN.{length}
use borrow.Author.Tests.{ltb-true, lt-ltb, le-leb, eqb-true, eqb-false, eq-eqb, not-true}
use Rattle.reply.specs.declared.Refusal.{Refusal}
use Rattle.words.specs.Sizes.{domains, object, selectors, place_of, domain_of, records, record_words}
use Rattle.words.proofs.PlaceLaws.{domain_back}
use Rattle.descriptor.specs.declared.Range.{Range}
use Rattle.descriptor.specs.declared.Reading.{Reading}
use Rattle.descriptor.specs.declared.Reading.TheVariants.{Null, Malformed, Good}
use Rattle.reply.specs.Replies.{Reply}
use Rattle.descriptor.specs.Descriptors.{Proper}
use Rattle.descriptor.proofs.DescriptorLaws.{good_proper}
use Rattle.interface.specs.Basics.{word, all_below}
use Rattle.interface.specs.Places.{State, live, free, PD, EC, SC, PT, SM, kind_word, domain_word, kind_of, create_bit, bind_sc_bit, bind_pt_bit, permitted, object_in}
use Rattle.interface.specs.Boot.{cpus}
use Rattle.interface.specs.Damage.{unnamed_rule, pds_below, pd_rule, has_pd, is_ec, ec_rule, between1, sc_rule, pt_rule}
use Rattle.interface.specs.RangeDescriptors.{reading}
use Rattle.interface.specs.Effects.{Effect, make, hold, act, run}
use Rattle.interface.specs.Verdicts.{Call, Verdict, refuse, grant, effects_of, caller_domain}
use Rattle.interface.specs.Creations.{new_place, pd_place, ec_place, free_record, next_domain, Creation, creation, initial_good, initial_gives, priority, quantum, create_pd, create_ec, create_sc, create_pt, create_sm}
use Rattle.interface.proofs.Basics.BoolLaws.{and_left, and_right, both, asked_anyway}
use Rattle.interface.proofs.Basics.BelowLaws.{count_below_same}
use Rattle.interface.proofs.Basics.PutLaws.{put_same}
use Rattle.interface.proofs.Sound.Soundness.{Sound}
use Rattle.interface.proofs.Tables.Steps.{MakeFits, HoldFits, FitInTurn}
use Rattle.interface.proofs.Sound.OneRecord.{has_pd_stays, is_ec_stays}
use Rattle.interface.proofs.Sound.SoundObjects.{made_differs}
use Rattle.interface.proofs.Tables.TurnLaws.{fit_append, require_so, same_home, give_fits, PlaceSteps, place_steps_none, gives_fit, gives_others}
use Rattle.interface.proofs.Sound.SoundFacts.{object_place_lem, object_place_domain, object_place_space, own_record, permitted_kind, is_ec_lem, has_pd_lem, home, ec_home, pds_used}

-- the state once an object with some words is stored in the lowest free record
abbrev pub stored : State → List ℕ → State
stored s words = act (make (free_record s) words) s

-- the new object has those words
pub stored_words : (s : State) (words : List ℕ) → (stored s words).objects (free_record s) ≡ word words
unfolding act
stored_words s words = put_same s.objects (free_record s) (word words)

module _ (s : State) (k : Sound s) (room : free_record s < records) where
  -- the domains with a PD have one still, the ECs are ECs still, and no PD has come before the new object
  stored_home : (words : List ℕ) (domain : ℕ) → has_pd s domain ≡ true → has_pd (stored s words) domain ≡ true
  stored_home words = has_pd_stays (free_record s) s (stored s words) (made_differs s k words room)

  stored_ec : (words : List ℕ) (number : ℕ) → is_ec s number ≡ true → is_ec (stored s words) number ≡ true
  stored_ec words = is_ec_stays (free_record s) s (stored s words) (made_differs s k words room)

  stored_pds : (words : List ℕ) → pds_below (stored s words) (free_record s) ≡ pds_below s (free_record s)
  unfolding pds_below
  stored_pds words =
      count_below_same (free_record s) (λ q. eqb (kind_of (stored s words) q) PD) (λ q. eqb (kind_of s q) PD)
      (λ i l. rw (kind_of, (made_differs s k words room).same_words i (λ (e : i ≡ free_record s). omega arith)))

  -- a new object fits where it keeps the rules 4 and 6 to 9
  new_fits : (words : List ℕ) → (word words kind_word ≡ free → ⊥) → length words ≤ record_words → unnamed_rule (stored s words) (free_record s) ≡ true →
      pd_rule (stored s words) (free_record s) ≡ true → ec_rule (stored s words) (free_record s) ≡ true → sc_rule (stored s words) (free_record s) ≡ true →
      pt_rule (stored s words) (free_record s) ≡ true → MakeFits s (free_record s) words
  new_fits words u l four six seven eight nine =
      record {
        lowest_free = refl;
        is_record = room;
        used = u;
        short = l;
        keeps_unnamed = four;
        keeps_pd = six;
        keeps_ec = seven;
        keeps_sc = eight;
        keeps_pt = nine;
      }

  -- a new object of each kind keeps them: those of another kind say nothing of it
  pd_fits : next_domain s < domains → MakeFits s (free_record s) (PD ∷ next_domain s ∷ [])
  unfolding unnamed_rule pd_rule ec_rule sc_rule pt_rule all_below
  pd_fits l =
      let words = PD ∷ next_domain s ∷ [] in
      let new = stored_words s words in
      let next = pds_below (stored s words) (free_record s) + 1 in
      let in_order : next_domain s ≡ next = rw (stored_pds words, pds_used s k room) in
      new_fits words (omega arith) (omega arith) (rw (kind_of, new))
      (rw (kind_of, new) (both (eqb (next_domain s) next) (ltb (next_domain s) domains) (eq-eqb (next_domain s) next in_order) (lt-ltb (next_domain s) domains l)))
      (rw (kind_of, new)) (rw (kind_of, new)) (rw (kind_of, new))

  ec_fits : (domain cpu base : ℕ) → has_pd s domain ≡ true → ltb cpu cpus ≡ true → base < selectors object →
      MakeFits s (free_record s) (EC ∷ domain ∷ cpu ∷ base ∷ [])
  unfolding unnamed_rule pd_rule ec_rule sc_rule pt_rule all_below
  ec_fits domain cpu base h c b =
      let words = EC ∷ domain ∷ cpu ∷ base ∷ [] in
      let new = stored_words s words in
      new_fits words (omega arith) (omega arith) (rw (kind_of, new)) (rw (kind_of, new))
      (rw (kind_of, new, stored_home words domain h, c) (lt-ltb base (selectors object) b)) (rw (kind_of, new)) (rw (kind_of, new))

  sc_fits : (number share turn : ℕ) → is_ec s number ≡ true → between1 255 share ≡ true → between1 1048575 turn ≡ true →
      MakeFits s (free_record s) (SC ∷ number ∷ share ∷ turn ∷ [])
  unfolding unnamed_rule pd_rule ec_rule sc_rule pt_rule all_below
  sc_fits number share turn h p q =
      let words = SC ∷ number ∷ share ∷ turn ∷ [] in
      let new = stored_words s words in
      new_fits words (omega arith) (omega arith) (rw (kind_of, new)) (rw (kind_of, new)) (rw (kind_of, new))
      (rw (kind_of, new)
      (asked_anyway (leb cpus (free_record s)) (is_ec (stored s words) number && between1 255 share && between1 1048575 turn)
      (rw (stored_ec words number h, p) q)))
      (rw (kind_of, new))

  pt_fits : (number mtd entry identifier : ℕ) → is_ec s number ≡ true → MakeFits s (free_record s) (PT ∷ number ∷ mtd ∷ entry ∷ identifier ∷ [])
  unfolding unnamed_rule pd_rule ec_rule sc_rule pt_rule all_below
  pt_fits number mtd entry identifier h =
      let words = PT ∷ number ∷ mtd ∷ entry ∷ identifier ∷ [] in
      let new = stored_words s words in
      new_fits words (omega arith) (omega arith) (rw (kind_of, new)) (rw (kind_of, new)) (rw (kind_of, new)) (rw (kind_of, new))
      (rw (kind_of, new) (stored_ec words number h))

  sm_fits : (count : ℕ) → MakeFits s (free_record s) (SM ∷ count ∷ [])
  unfolding unnamed_rule pd_rule ec_rule sc_rule pt_rule all_below
  sm_fits count =
      let words = SM ∷ count ∷ [] in
      let new = stored_words s words in
      new_fits words (omega arith) (omega arith) (rw (kind_of, new)) (rw (kind_of, new)) (rw (kind_of, new)) (rw (kind_of, new)) (rw (kind_of, new))

-- what a creation that is granted has been checked for
pub record Granted (s : State) (c : Call) (new : Creation) : Type 0 where
  pub null : live (s.caps (new_place s c)) ≡ false
  pub by_pd : permitted s (pd_place s c) PD (create_bit new.kind) ≡ true
  pub bound : new.bindable ≡ true
  pub on_cpu_lem : new.cpu_good ≡ true
  pub parameters : new.parameters_good ≡ true
  pub room : free_record s < records
  pub domain : new.domain_left ≡ true

-- the steps of a creation
abbrev pub steps_of : State → Call → Creation → List Effect
steps_of s c new = make (free_record s) new.words ∷ new.delegations ++ (hold (new_place s c) (free_record s) ∷ [])

-- what holds of every refusal, and of a creation's steps once it has been checked, holds of it
pub granted_so : (P : Verdict → Type 0) (s : State) (c : Call) (new : Creation) → ((refusal : Refusal) → P (refuse refusal)) →
    (Granted s c new → P (grant 0 (steps_of s c new))) → P (creation s c new)
unfolding creation
granted_so P s c new refused f =
    let has_room = ltb (free_record s) records in
    let granted : not (live (s.caps (new_place s c))) ≡ true → permitted s (pd_place s c) PD (create_bit new.kind) ≡ true → new.bindable ≡ true → new.cpu_good ≡ true →
    new.parameters_good ≡ true → (has_room && new.domain_left) ≡ true → P (grant 0 (steps_of s c new)) =
    λ null by_pd bound on_cpu_lem parameters room.
    f
    (record {
      null = not-true (live (s.caps (new_place s c))) null;
      by_pd = by_pd;
      bound = bound;
      on_cpu_lem = on_cpu_lem;
      parameters = parameters;
      room = ltb-true (free_record s) records (and_left has_room new.domain_left room);
      domain = and_right has_room new.domain_left room;
    }) in
    search (require_so P, refused, granted) depth 20

-- initial delegations that fit, and leave the new place null
pub record Initial (s : State) (c : Call) (new : Creation) : Type 0 where
  pub steps : PlaceSteps new.delegations (stored s new.words)
  pub place_stays : (run new.delegations (stored s new.words)).caps (new_place s c) ≡ (stored s new.words).caps (new_place s c)

-- a creation's steps fit where the new object fits, and the initial delegations leave the new place null
creation_fits : (s : State) (c : Call) (new : Creation) → Sound s → is_ec s c.caller ≡ true → (Granted s c new → MakeFits s (free_record s) new.words) →
    (Granted s c new → Initial s c new) → FitInTurn (effects_of (creation s c new)) s
unfolding act
creation_fits s c new k e f g =
    granted_so (λ (verdict : Verdict). FitInTurn (effects_of verdict) s) s c new (λ reply. tt)
    (λ granted.
    let number = free_record s in
    let made = f granted in
    let initial = g granted in
    let here = caller_domain s c in
    let last = run new.delegations (stored s new.words) in
    let at_home = ec_home s k c.caller e in
    let in_stored = stored_home s k granted.room new.words here at_home in
    let in_last : has_pd last here ≡ true = same_home (stored s new.words) last here initial.steps.objects_stay in_stored in
    let new_words : last.objects number ≡ word new.words =
    ap (λ (o : ℕ → ℕ → ℕ). o number) initial.steps.objects_stay ∙ stored_words s new.words in
    let held : HoldFits last (new_place s c) number =
    record {
      place_small = object_place_lem here c.first (home s k here at_home).small;
      is_object = object_place_space here c.first;
      at_home = rw (object_place_domain here c.first) in_last;
      null = rw initial.place_stays granted.null;
      is_record = granted.room;
      used = λ h. made.used (sym (ap (λ (w : ℕ → ℕ). w kind_word) new_words) ∙ h);
    } in
    (made, fit_append new.delegations (hold (new_place s c) number ∷ []) (stored s new.words) initial.steps.fit (held, tt)))

-- no delegations leave it so
pub no_initial : (s : State) (c : Call) (new : Creation) → new.delegations ≡ [] → Initial s c new
unfolding run
no_initial s c new none = record { steps = rw none (place_steps_none (stored s new.words)); place_stays = rw none }

-- the delegations of an initial descriptor to a domain with a PD fit, and leave every place of another domain alone
module _ (t : State) (from to place : ℕ) (f : from < domains) (l : to < domains) (h : has_pd t to ≡ true) (apart : domain_of place ≡ to → ⊥) where
  pub initial_gives_lem : (read : Reading) → ((range : Range) → read ≡ Good range → Proper range) → initial_good read ≡ true →
      PlaceSteps (initial_gives from to read) t × ((run (initial_gives from to read) t).caps place ≡ t.caps place)
  unfolding run
  initial_gives_lem Null p good = (place_steps_none t, refl)
  initial_gives_lem Malformed p good = (place_steps_none t, refl)
  initial_gives_lem (Good range) p good =
      let ends = subst (λ (space : ℕ). range.base + 2 ^ range.order ≤ selectors space) (eqb-true range.space object good) (p range refl).ends_inside in
      let inside : (i : ℕ) → i < 2 ^ range.order → range.base + i < selectors object = λ i b. omega arith in
      let destination : ℕ → ℕ = λ i. place_of to object (range.base + i) in
      let source : ℕ → ℕ = λ i. place_of from object (range.base + i) in (
        gives_fit destination source _ (2 ^ range.order) t
            (λ i b. give_fits t from to object (range.base + i) (range.base + i) f l (omega arith) (inside i b) (inside i b) h),
        gives_others destination source _ (2 ^ range.order) t place
            (λ i b same. apart (ap domain_of same ∙ domain_back to object (range.base + i) (omega arith) (inside i b))),
      )

-- a number from 1 on is between 1 and each that is not below it
from_1 : (greatest number : ℕ) → not (eqb number 0) ≡ true → number ≤ greatest → between1 greatest number ≡ true
from_1 greatest number h l =
    let some : number ≡ 0 → ⊥ = eqb-false number 0 (not-true (eqb number 0) h) in
    both (leb 1 number) (leb number greatest) (le-leb 1 number (omega arith)) (le-leb number greatest l)

module _ (s : State) (c : Call) (k : Sound s) (e : is_ec s c.caller ≡ true) where
  -- a new PD's initial delegations fit, and leave the new place null
  pub pd_initial : (new : Creation) → new.words ≡ PD ∷ next_domain s ∷ [] → new.delegations ≡ initial_gives (caller_domain s c) (next_domain s) (reading c.third) →
      next_domain s < domains → initial_good (reading c.third) ≡ true → free_record s < records → Initial s c new
  pd_initial new w d l good room =
      let words = PD ∷ next_domain s ∷ [] in
      let stored_so = stored_words s words in
      let here = home s k (caller_domain s c) (ec_home s k c.caller e) in
      let gives =
      initial_gives_lem (stored s words) (caller_domain s c) (next_domain s) (new_place s c) here.small l
      (has_pd_lem (stored s words) (free_record s) (next_domain s) room (rw (kind_of, stored_so)) (rw stored_so))
      (λ same. let taken = here.taken in omega (arith, object_place_domain (caller_domain s c) c.first))
      (reading c.third) (good_proper c.third) good in
      record { steps = rw (w, d) gives.0; place_stays = rw (w, d) gives.1 }

  -- the steps of each creation's rule fit
  pub pd_creation_fits : FitInTurn (effects_of (create_pd s c)) s
  unfolding create_pd
  pd_creation_fits =
      creation_fits s c _ k e (λ granted. pd_fits s k granted.room (ltb-true (next_domain s) domains granted.domain))
      (λ granted. pd_initial _ refl refl (ltb-true (next_domain s) domains granted.domain) granted.parameters granted.room)

  pub ec_creation_fits : FitInTurn (effects_of (create_ec s c)) s
  unfolding create_ec
  ec_creation_fits =
      creation_fits s c _ k e
      (λ granted.
      let parent = object_in s (pd_place s c) in
      let at_home =
      has_pd_lem s parent (s.objects parent domain_word) (own_record s k c.caller c.second PD (create_bit EC) e granted.by_pd)
      (permitted_kind s (pd_place s c) PD (create_bit EC) granted.by_pd) refl in
      ec_fits s k granted.room _ _ _ at_home granted.on_cpu_lem (omega arith))
      (λ granted. no_initial s c _ refl)

  -- the EC that a creation binds to
  bound_ec : (bit : ℕ) → permitted s (ec_place s c) EC bit ≡ true → is_ec s (object_in s (ec_place s c)) ≡ true
  bound_ec bit h = is_ec_lem s (object_in s (ec_place s c)) (own_record s k c.caller c.third EC bit e h) (permitted_kind s (ec_place s c) EC bit h)

  pub sc_creation_fits : FitInTurn (effects_of (create_sc s c)) s
  unfolding create_sc
  sc_creation_fits =
      let some_priority = not (eqb (priority c.fourth) 0) in
      let some_quantum = not (eqb (quantum c.fourth) 0) in
      creation_fits s c _ k e
      (λ granted. sc_fits s k granted.room _ _ _ (bound_ec bind_sc_bit granted.bound)
      (from_1 255 (priority c.fourth) (and_left some_priority some_quantum granted.parameters) (omega arith))
      (from_1 1048575 (quantum c.fourth) (and_right some_priority some_quantum granted.parameters) (omega arith)))
      (λ granted. no_initial s c _ refl)

  pub pt_creation_fits : FitInTurn (effects_of (create_pt s c)) s
  unfolding create_pt
  pt_creation_fits =
      creation_fits s c _ k e
      (λ granted. pt_fits s k granted.room _ _ _ _ (bound_ec bind_pt_bit granted.bound))
      (λ granted. no_initial s c _ refl)

  pub sm_creation_fits : FitInTurn (effects_of (create_sm s c)) s
  unfolding create_sm
  sm_creation_fits = creation_fits s c _ k e (λ granted. sm_fits s k granted.room _) (λ granted. no_initial s c _ refl)
