-- Answers: from the damage test and what sound tables come to, to what the kernel promises.
use Rattle.std.specs.Prelude.{Err}
use Prim.Native.Nat.{ℕ}
use mathlib.Core.Path.{◌≡◌, sym, ◌∙◌, subst}
use mathlib.Core.Bool.{true, false}
use mathlib.Core.List.{List, []}
use native.Mathlib.Omega.{arith}
use Rattle.reply.specs.Replies.{Reply}
use Rattle.reply.specs.declared.Refusal.TheVariants.{Damaged}
use lib.ListN.{length}
use Rattle.interface.specs.Places.{Tables, sized, cap_at, place_table_words, tables, view, places_in}
use Rattle.interface.specs.Damage.{sound}
use Rattle.interface.specs.Verdicts.{Call}
use Rattle.interface.specs.Rules.{after, boot_tables}
use Rattle.interface.specs.Outcomes.{Outcome, outcome, Booted}
use Rattle.interface.specs.Census.{CensusResult, counted, census_of}
use Rattle.interface.specs.Demand.{tables_after_all, from_boot, GoesOn, ShowsHeirs}
use Rattle.interface.proofs.Tables.TableLaws.{places_long, sound_sized, sound_shown}
use Rattle.interface.proofs.Consequences.ConsequenceLaws.{judged_once}
use Rattle.interface.proofs.History.DemandLaws.{goes_on, shows_heirs}
use Rattle.interface.proofs.Sound.Soundness.{sound_facts}
use Rattle.descent.specs.Walks.{Linked}
use Rattle.descent.proofs.LinkLaws.{sound_linked}
use Rattle.service.specs.Serving.{Serves}
use Rattle.service.proofs.AdmissionLaws.{refused_outcome}

-- damaged tables are refused
pub damaged_outcome : (places objects : List ℕ) (c : Call) → sound (tables places objects) ≡ false →
    Serves c (tables places objects) (tables places objects) c.target (Err Damaged)
damaged_outcome places objects c f = refused_outcome places objects c Damaged (judged_once (tables places objects) c ∙ (rw f)) (λ z. omega arith)

-- the census of damaged tables, and that of sound ones
module _ (places objects : List ℕ) (place : ℕ) (list : List ℕ) where
  pub census_refused : sound (tables places objects) ≡ false → record { reply = Err Damaged; list = list } ≡ census_of (tables places objects) place list
  unfolding census_of
  census_refused f = rw f

  pub census_counted : sound (tables places objects) ≡ true → (result : CensusResult) → result ≡ counted (places_in places) place list →
      result ≡ census_of (tables places objects) place list
  unfolding counted census_of
  census_counted t result e = rw t e

-- sound tables have their lengths, and links that a walk can follow
module _ (places objects : List ℕ) (t : sound (tables places objects) ≡ true) where
  pub census_lengths : length places ≡ place_table_words
  census_lengths = places_long (tables places objects) (sound_sized (tables places objects) t)

  pub census_links : Linked (cap_at places)
  census_links = sound_linked (view places objects) (sound_facts (view places objects) (sound_shown (tables places objects) t))

-- what a hypercall, a census and boot come to, and what that says after any events from boot
pub going_on : (here : Tables) (c : Call) (after : Outcome) → after ≡ outcome here c → (after ≡ outcome here c) × GoesOn here c after
going_on here c after e = (e, subst (GoesOn here c) (sym e) (goes_on here c))

pub showing_heirs : (here : Tables) (place : ℕ) (list : List ℕ) (result : CensusResult) → result ≡ census_of here place list →
    (result ≡ census_of here place list) × ShowsHeirs here place list result
showing_heirs here place list result e = (e, subst (ShowsHeirs here place list) (sym e) (shows_heirs here place list))

pub from_boot_lem : {places objects places_after objects_after : List ℕ} {reply : Reply} → Booted places objects places_after objects_after reply →
    Booted places objects places_after objects_after reply × (sized (tables places objects) ≡ true → tables places_after objects_after ≡ from_boot [])
unfolding boot_tables tables_after_all
from_boot_lem booted = (booted, λ t. booted.leaves ∙ (rw t))
