-- Each creation runs its rule.
use Prim.Native.Nat.{ℕ, ◌+◌, ◌/◌, ◌%◌, ◌^◌, ◌<◌}
use mathlib.Core.Path.{◌≡◌, refl, ap, ◌∙◌}
use mathlib.Core.Bool.{Bool, true, not, ◌&&◌}
use mathlib.Core.List.{List, [], ◌∷◌, ◌++◌}
use native.Mathlib.Omega.{arith}
use lib.Dec.{eqb, ltb}
use lib.ListN.{replicate}
use Rattle.words.specs.Sizes.{domains, object, selectors, records}
use Rattle.descriptor.specs.declared.Reading.{Reading}
use Rattle.descriptor.specs.declared.Reading.TheVariants.{Null}
use Rattle.reply.specs.Replies.{Reply}
use Rattle.descriptor.specs.Descriptors.{reading}
use Rattle.descriptor.specs.Descriptors.{kept as keptWord}
use Rattle.descriptor.proofs.DescriptorLaws.{base_high, reading_kept}
use Rattle.interface.specs.Basics.{word}
use Rattle.interface.specs.Places.{Cap, State, Tables, PD, EC, SC, PT, SM, domain_word, bind_sc_bit, bind_pt_bit, object_place, object_in, permitted, cap_at, object_at, tables, view}
use Rattle.interface.specs.Boot.{cpus}
use Rattle.interface.specs.Damage.{pds_below}
use Rattle.interface.specs.Verdicts.{Call, Verdict}
use Rattle.interface.specs.Creations.{creation, initial_good, priority, create_pd, create_ec, create_sc, create_pt, create_sm}
use Rattle.interface.specs.Rules.{Runs}
use Rattle.objects.specs.Records.{records_in, words_of}
use Rattle.objects.proofs.RecordTableLaws.{short_words}
use Rattle.creation_rule.specs.declared.Creation.{Creation}
use Rattle.creation_rule.specs.CreationRule.{rule_of, Asks, Creates}

-- a creation with its object's words and its tests as the code has them
abbrev creation_of : (kind first second third fourth : ℕ) (bindable on_cpu good left : Bool) (initial : Reading) → Creation
creation_of kind first second third fourth bindable on_cpu good left initial =
    record {
      object = record { 0 = kind; 1 = first; 2 = second; 3 = third; 4 = fourth };
      bindable = bindable;
      cpu_good = on_cpu;
      parameters_good = good;
      domain_left = left;
      initial = initial;
    }

-- the low field of a QPD, as the code has it
priority_low : (qpd : ℕ) → priority qpd ≡ qpd % 2 ^ 8
priority_low qpd = omega arith

module _ {places objects : List ℕ} {after : Tables} {reply : Reply} {caller domain selector pd : ℕ} {c : Call}
    (in_domain : domain ≡ object_at objects caller domain_word) (is_caller : c.caller ≡ caller) (is_first : c.first ≡ selector)
    (is_second : c.second ≡ pd) where
  -- a call whose rule is that of a creation runs it, where the object's words are the rule's and zeros after them
  runs_rule : {verdict : State → Call → Verdict} {new : Creation} → Creates domain selector pd new (tables places objects) after reply →
      (words : List ℕ) (zeros : ℕ) → words_of new.object ≡ words ++ replicate zeros 0 →
      verdict (view places objects) c ≡ creation (view places objects) c (rule_of domain new words) → Runs verdict c (tables places objects) after reply
  runs_rule creates words zeros is_words is_rule =
      let asks : Asks (view places objects) domain selector pd c =
      record { in_domain = rw (is_caller, in_domain); is_first = is_first; is_second = is_second } in
      let runs = creates.runs c words asks (ap word is_words ∙ short_words words zeros) in
      record { replies = rw is_rule runs.replies; leaves = rw is_rule runs.leaves }

  pub pd_runs : {initial kept count : ℕ} {range : Reading} {good : Bool} → c.third ≡ initial → kept ≡ keptWord initial → range ≡ reading kept →
      good ≡ initial_good range → count ≡ pds_below (records_in objects) records →
      Creates domain selector pd (creation_of PD (count + 1) 0 0 0 true true good (ltb (count + 1) domains) range) (tables places objects) after reply →
      Runs create_pd c (tables places objects) after reply
  unfolding create_pd pds_below
  pd_runs {initial} {count = count} is_third is_kept is_range is_good is_count creates =
      runs_rule creates (PD ∷ (count + 1) ∷ []) 3 refl
      (rw (is_third, is_caller, in_domain, is_good, is_range, is_kept, reading_kept initial, is_count))

  pub ec_runs : {cpu base place home : ℕ} {cap : Cap} → c.third ≡ cpu → c.fourth ≡ base → place ≡ object_place domain pd → cap ≡ cap_at places place →
      home ≡ object_at objects cap.resource domain_word →
      Creates domain selector pd (creation_of EC home cpu (base % selectors object) 0 true (ltb cpu cpus) true true Null) (tables places objects) after reply →
      Runs create_ec c (tables places objects) after reply
  unfolding create_ec
  ec_runs {cpu} {base} {home = home} is_third is_fourth is_place loaded is_home creates =
      runs_rule creates (EC ∷ home ∷ cpu ∷ base % selectors object ∷ []) 1 refl
      (rw (is_home, loaded, is_place, in_domain, is_caller, is_second, is_third, is_fourth))

  -- an SC or a PT, with the EC that it is bound to
  module _ {ec number : ℕ} {may : Bool} (is_third : c.third ≡ ec) (is_number : number ≡ object_in (view places objects) (object_place domain ec)) where
    pub sc_runs : {qpd : ℕ} → c.fourth ≡ qpd → qpd < 2 ^ 32 → may ≡ permitted (view places objects) (object_place domain ec) EC bind_sc_bit →
        Creates domain selector pd
        (creation_of SC number (qpd % 2 ^ 8) (qpd / 2 ^ 12) 0 may true (not (eqb (qpd % 2 ^ 8) 0) && not (eqb (qpd / 2 ^ 12) 0)) true Null)
        (tables places objects) after reply →
        Runs create_sc c (tables places objects) after reply
    unfolding create_sc
    sc_runs {qpd} is_fourth fits is_may creates =
        runs_rule creates (SC ∷ number ∷ qpd % 2 ^ 8 ∷ qpd / 2 ^ 12 ∷ []) 1 refl
        (rw (is_may, is_number, in_domain, is_caller, is_third, is_fourth, priority_low qpd, base_high qpd fits))

    pub pt_runs : {mtd ip identifier : ℕ} → c.fourth ≡ mtd → c.fifth ≡ ip → c.sixth ≡ identifier →
        may ≡ permitted (view places objects) (object_place domain ec) EC bind_pt_bit →
        Creates domain selector pd (creation_of PT number mtd ip identifier may true true true Null) (tables places objects) after reply →
        Runs create_pt c (tables places objects) after reply
    unfolding create_pt
    pt_runs {mtd} {ip} {identifier} is_fourth is_fifth is_sixth is_may creates =
        runs_rule creates (PT ∷ number ∷ mtd ∷ ip ∷ identifier ∷ []) 0 refl
        (rw (is_may, is_number, in_domain, is_caller, is_third, is_fourth, is_fifth, is_sixth))

  pub sm_runs : {count : ℕ} → c.third ≡ count →
      Creates domain selector pd (creation_of SM count 0 0 0 true true true true Null) (tables places objects) after reply →
      Runs create_sm c (tables places objects) after reply
  unfolding create_sm
  sm_runs {count} is_third creates = runs_rule creates (SM ∷ count ∷ []) 3 refl (rw is_third)
