-- What a call's function knows of its tables and caller, and what makes it run its rule: a refusal leaves the tables, a grant leaves those of its steps.
use Rattle.std.specs.Prelude.{Err}
use Prim.Native.Nat.{ℕ, ◌<◌}
use mathlib.Core.Path.{◌≡◌}
use mathlib.Core.Bool.{true}
use mathlib.Core.List.{List}
use Rattle.reply.specs.declared.Refusal.{Refusal}
use Rattle.words.specs.Sizes.{domains, records}
use Rattle.reply.specs.Replies.{Reply}
use Rattle.interface.specs.Places.{Cap, State, domain_word, object_place, permitted, sized, cap_at, object_at, place_table, object_table, tables, view}
use Rattle.interface.specs.Effects.{run}
use Rattle.interface.specs.Verdicts.{Call, Verdict, refuse, reply_of, effects_of}
use Rattle.interface.specs.Rules.{Runs}
use Rattle.interface.proofs.Tables.TableLaws.{cap_table_back, record_table_back, places_long, objects_long, sound_sized, sound_shown}
use Rattle.interface.proofs.Sound.Soundness.{Sound, sound_facts}
use Rattle.interface.proofs.Sound.SoundFacts.{ec_small, home, ec_home, own_record}
use Rattle.places.specs.Table.{Sized as SizedPlaces}
use Rattle.objects.specs.Records.{Sized as SizedObjects}
use Rattle.capabilities.specs.Callers.{Called}

module _ {places objects : List ℕ} {caller : ℕ} (called : Called places objects caller) where
  -- the tables have their lengths
  lengths : sized (tables places objects) ≡ true
  lengths = sound_sized (tables places objects) called.is_sound

  pub sized_places : SizedPlaces places
  sized_places = places_long (tables places objects) lengths

  pub sized_objects : SizedObjects objects
  sized_objects = objects_long (tables places objects) lengths

  -- what they show keeps the rules of damage
  pub called_sound : Sound (view places objects)
  called_sound = sound_facts (view places objects) (sound_shown (tables places objects) called.is_sound)

  -- the caller is a record's number, and its domain one of the domains
  pub caller_small : caller < records
  caller_small = ec_small (view places objects) caller called.is_ec_lem

  pub caller_domain_small : object_at objects caller domain_word < domains
  caller_domain_small =
      (home (view places objects) called_sound (object_at objects caller domain_word) (ec_home (view places objects) called_sound caller called.is_ec_lem)).small

  -- what a permitted object place of the caller's domain names is a record
  pub named_record : {domain place : ℕ} {cap : Cap} (selector kind bit : ℕ) → domain ≡ object_at objects caller domain_word →
      place ≡ object_place domain selector → permitted (view places objects) place kind bit ≡ true → cap ≡ cap_at places place → cap.resource < records
  named_record selector kind bit is_domain is_place allowed is_cap =
      rw (is_cap, is_place, is_domain)
      (own_record (view places objects) called_sound caller selector kind bit called.is_ec_lem (rw (is_place, is_domain) at allowed))

  -- each table is that of what it shows
  pub places_kept : place_table (view places objects) ≡ places
  places_kept = cap_table_back places sized_places

  pub objects_kept : object_table (view places objects) ≡ objects
  objects_kept = record_table_back objects sized_objects

  module _ {verdict : State → Call → Verdict} {c : Call} where
    -- a refusal with the tables as they were runs the rule that refuses so
    pub refused_runs : {refusal : Refusal} → verdict (view places objects) c ≡ refuse refusal →
        Runs verdict c (tables places objects) (tables places objects) (Err refusal)
    unfolding run
    refused_runs e = record { replies = rw e; leaves = rw (e, places_kept, objects_kept) }

    -- the verdict's reply with the tables that its steps leave runs the rule
    pub granted_runs : {given : Verdict} {places_after objects_after : List ℕ} → verdict (view places objects) c ≡ given →
        places_after ≡ place_table (run (effects_of given) (view places objects)) → objects_after ≡ object_table (run (effects_of given) (view places objects)) →
        Runs verdict c (tables places objects) (tables places_after objects_after) (reply_of given)
    granted_runs e p o = record { replies = rw e; leaves = rw (e, p, o) }
