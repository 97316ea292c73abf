-- The examples, by computation.
use Prim.Native.Nat.{ℕ, ◌+◌}
use mathlib.Core.Path.{◌≡◌, refl, ap, ◌∙◌}
use mathlib.Core.Bool.{Bool, true, false}
use mathlib.Core.List.{List, [], ◌∷◌, ◌++◌}
use Rattle.endian.specs.Numbers.{little, number_at}
use Rattle.words.specs.Sizes.{memory, object, place_of, space_of}
use Rattle.std.specs.Prelude.{if◌then◌else◌}
use Rattle.interface.specs.Basics.{listed, all_below, count_below, lowest}
use Rattle.interface.specs.Places.{Cap, State, PD, domain_word}
use Rattle.interface.specs.Boot.{boot, hypervisor, root}
use Rattle.interface.specs.Damage.{pds_below, is_ec, sound_state}
use Rattle.interface.specs.Effects.{Effect, give, cut, run, make, hold}
use Rattle.interface.specs.Verdicts.{CALL, CREATE_PD, REVOKE, LOOKUP, grant, deliver, reply_of, block_of}
use Rattle.interface.specs.Creations.{free_record, creation, create_sm, create_pd}
use Rattle.interface.specs.Revoke.{revoke}
use Rattle.interface.specs.Lookup.{uniform, largest, around, found, lookup}
use Rattle.interface.specs.Message.{payload_fits}
use Rattle.interface.specs.PortalCalls.{portal_call}
use Rattle.interface.specs.Rules.{hypercall, called, rules, after}
use Rattle.interface.specs.Journal.{body_bytes, body_word, recorded_call, done, short, unknown, ended, beginning, read_by, contents_from, stop_lines, replay, width, spelled, spelled_lines}
use Rattle.interface.specs.Examples.{Each, root_lookup, selector_word, objects_taken, lookup_examples, placed_line, root_revoke, revoke_line, called_examples, mask_examples, neighbour, message_cap, message_record, message_state, block_before, block_received, example_message, WorkedExamples, MessageExample, example_journal, JournalExample, lookup_record, JournalStops, example_range, RangeExample, LayoutExamples}
use Rattle.interface.proofs.Tables.VerdictLaws.{sound_rules, after_verdict}
use Rattle.interface.proofs.Sound.Soundness.{sound_facts, facts_sound, tested_sound, damage_rules}
use Rattle.interface.proofs.History.BootLaws.{boot_tables_lem, boot_sound}
use Rattle.interface.proofs.History.DemandLaws.{after_sound}
use Rattle.interface.proofs.Journal.JournalLaws.{state_lines, state_replay, replay_shown}
use Rattle.interface.proofs.Examples.Shared.{◌and◌, descriptors, steps, dispatch, items}

-- the line of descent on its places: its state is sound, and REVOKE comes to these steps
placed_sound : sound_state placed_line ≡ true
unfolding damage_rules boot_tables_lem
placed_sound =
    tested_sound placed_line (refl and refl and refl and refl and refl and refl and refl and refl and tt) (refl and refl and refl and refl and tt)

revoke_granted : (self : Bool) → rules placed_line (revoke_line (if self then 1 else 0)) ≡ grant 0 (cut 2 (place_of root memory 8) 1 self ∷ [])
unfolding dispatch descriptors is_ec boot_tables_lem revoke
revoke_granted true = sound_rules placed_line (revoke_line 1) placed_sound ∙ refl
revoke_granted false = sound_rules placed_line (revoke_line 0) placed_sound ∙ refl

revoke_after : (self : Bool) → after placed_line (revoke_line (if self then 1 else 0)) ≡ run (cut 2 (place_of root memory 8) 1 self ∷ []) placed_line
revoke_after self =
    after_verdict placed_line (revoke_line (if self then 1 else 0)) (grant 0 (cut 2 (place_of root memory 8) 1 self ∷ [])) (revoke_granted self)

abbrev line_caps : State → List Cap
line_caps s = s.caps 392 ∷ s.caps 776 ∷ s.caps 1160 ∷ []

called_examples_lem : Each called_examples
unfolding descriptors boot_tables_lem steps
called_examples_lem =
    placed_sound and refl and ap reply_of (revoke_granted false) and ap line_caps (revoke_after false) and ap reply_of (revoke_granted true) and
    ap line_caps (revoke_after true) and
    facts_sound (after placed_line (revoke_line 1)) (after_sound placed_line (revoke_line 1) (sound_facts placed_line placed_sound)) and
    ap (λ (s : State). s.caps 8) (revoke_after true) and refl and refl and refl and tt

-- the root's REVOKE after boot
revoked_at : (descriptor : ℕ) → rules boot (root_revoke descriptor 0) ≡ called boot (root_revoke descriptor 0) (hypercall REVOKE)
revoked_at descriptor = sound_rules boot (root_revoke descriptor 0) boot_sound

mask_examples_lem : Each mask_examples
unfolding dispatch descriptors is_ec boot_tables_lem revoke
mask_examples_lem =
    ap reply_of (revoked_at 32769) and ap reply_of (revoked_at 32801) and ap reply_of (revoked_at 32785) and ap reply_of (revoked_at 32778) and
    ap reply_of (revoked_at 32782) and ap reply_of (revoked_at 163843) and ap reply_of (revoked_at 163907) and ap reply_of (revoked_at 0) and ap reply_of (revoked_at 32) and tt

-- the root's LOOKUP after boot
looked_up : (descriptor : ℕ) → rules boot (root_lookup descriptor) ≡ called boot (root_lookup descriptor) (hypercall LOOKUP)
looked_up descriptor = sound_rules boot (root_lookup descriptor) boot_sound

-- and where it has taken objects 0 to 15
taken_sound : sound_state objects_taken ≡ true
unfolding damage_rules boot_tables_lem
taken_sound =
    tested_sound objects_taken (refl and refl and refl and refl and refl and refl and refl and refl and tt) (refl and refl and refl and refl and tt)

taken_looked_up : (descriptor : ℕ) → rules objects_taken (root_lookup descriptor) ≡ called objects_taken (root_lookup descriptor) (hypercall LOOKUP)
taken_looked_up descriptor = sound_rules objects_taken (root_lookup descriptor) taken_sound

lookup_examples_lem : Each lookup_examples
unfolding dispatch descriptors is_ec boot_tables_lem all_below uniform largest around found lookup
lookup_examples_lem =
    ap reply_of (looked_up 1027) and ap reply_of (looked_up 1155) and taken_sound and ap reply_of (taken_looked_up (selector_word object 200)) and
    ap reply_of (taken_looked_up (selector_word object 456)) and ap reply_of (taken_looked_up (selector_word object 208)) and refl and refl and tt

pub worked_examples : WorkedExamples
unfolding dispatch descriptors is_ec boot_tables_lem steps listed all_below lowest uniform largest around found lookup
worked_examples =
    refl and refl and refl and refl and refl and refl and refl and refl and refl and refl and refl and refl and refl and refl and refl and refl and
    refl and refl and refl and refl and refl and refl and ap reply_of (looked_up (selector_word object 32)) and ap reply_of (looked_up (selector_word object 35)) and ap reply_of (looked_up (selector_word memory 63)) and ap reply_of (looked_up (selector_word memory 62)) and
    ap reply_of (looked_up (selector_word memory 61)) and called_examples_lem and mask_examples_lem and lookup_examples_lem and tt

-- to unfold this is to unfold what the lines of journals on states compute by
unfoldable journals : Unit {0}
unfolding dispatch descriptors is_ec boot_tables_lem steps listed all_below lowest found lookup little number_at body_bytes body_word recorded_call beginning read_by contents_from stop_lines state_lines
journals = tt

example_computed : state_replay example_journal ≡ done 0 6 0 0 ∷ done 1 8 0 163855 ∷ ended 2 ∷ []
unfolding journals count_below free_record creation create_sm uniform largest around
example_computed = refl

pub journal_example : JournalExample
unfolding width spelled spelled_lines
journal_example =
    let lines : replay example_journal ≡ done 0 6 0 0 ∷ done 1 8 0 163855 ∷ ended 2 ∷ [] = replay_shown example_journal ∙ example_computed in (
      lines,
      (ap spelled_lines lines, tt),
    )

-- the lines where reading stops, on states
stops_computed :
    (state_replay [] ≡ ended 0 ∷ []) × (state_replay (6 ∷ []) ≡ short ∷ ended 0 ∷ []) ×
    (state_replay (8 ∷ 29 ∷ 0 ∷ 0 ∷ 0 ∷ 3 ∷ 128 ∷ 2 ∷ []) ≡ short ∷ ended 0 ∷ []) ×
    (state_replay (lookup_record ++ (8 ∷ 29 ∷ 0 ∷ 0 ∷ 0 ∷ 3 ∷ 128 ∷ 2 ∷ [])) ≡ done 0 8 0 0 ∷ short ∷ ended 1 ∷ []) ×
    (state_replay (1 ∷ []) ≡ unknown 1 ∷ ended 0 ∷ []) ×
    (state_replay (lookup_record ++ (255 ∷ lookup_record)) ≡ done 0 8 0 0 ∷ unknown 255 ∷ ended 1 ∷ []) ×
    (state_replay (11 ∷ 0 ∷ 0 ∷ 0 ∷ 0 ∷ 0 ∷ 0 ∷ 0 ∷ 0 ∷ 0 ∷ 0 ∷ 0 ∷ 0 ∷ []) ≡ done 0 11 18 0 ∷ ended 1 ∷ [])
unfolding journals
stops_computed = (refl, refl, refl, refl, refl, refl, refl)

pub journal_stops : JournalStops
unfolding width spelled spelled_lines
journal_stops =
    let (nothing_read, kind_alone, byte_lacking, later_lacking, no_kind, later_no_kind, refused) = stops_computed in
    let empty_lines = replay_shown [] ∙ nothing_read in
    let alone_lines = replay_shown (6 ∷ []) ∙ kind_alone in
    let bad_lines = replay_shown (lookup_record ++ (255 ∷ lookup_record)) ∙ later_no_kind in (
      empty_lines,
      (
        ap spelled_lines empty_lines,
        (
          alone_lines,
          (
            ap spelled_lines alone_lines,
            (
              replay_shown _ ∙ byte_lacking,
              (
                replay_shown _ ∙ later_lacking,
                (replay_shown _ ∙ no_kind, (bad_lines, (ap spelled_lines bad_lines, (replay_shown _ ∙ refused, tt)))),
              ),
            ),
          ),
        ),
      ),
    )

-- the message: its state is sound, its call comes to these steps, and those leave these places
abbrev message_gives : List Effect
message_gives =
    give (place_of neighbour memory 44) (place_of root memory 6) 3 ∷ give (place_of neighbour memory 45) (place_of root memory 7) 3 ∷
    give (place_of neighbour memory 44) (place_of hypervisor memory 4) 7 ∷ give (place_of neighbour memory 45) (place_of hypervisor memory 5) 7 ∷
    give (place_of neighbour memory 46) (place_of hypervisor memory 6) 7 ∷ give (place_of neighbour memory 47) (place_of hypervisor memory 7) 7 ∷ []

message_sound : sound_state message_state ≡ true
unfolding message_cap message_record damage_rules boot_tables_lem
message_sound =
    tested_sound message_state (refl and refl and refl and refl and refl and refl and refl and refl and tt) (refl and refl and refl and refl and tt)

message_called : called message_state example_message (hypercall CALL) ≡ deliver 4 message_gives block_received
unfolding message_cap message_record dispatch descriptors is_ec boot_tables_lem steps listed items payload_fits portal_call
message_called = refl

message_granted : rules message_state example_message ≡ deliver 4 message_gives block_received
message_granted = sound_rules message_state example_message message_sound ∙ message_called

message_places : (place : ℕ) → (after message_state example_message).caps place ≡ (run message_gives message_state).caps place
message_places place = ap (λ (s : State). s.caps place) (after_verdict message_state example_message (deliver 4 message_gives block_received) message_granted)

pub computed_message : MessageExample
unfolding message_cap space_of boot_tables_lem steps
computed_message = (
  ap reply_of message_granted,
  (
    ap (block_of block_before) message_granted,
    (
      message_places (place_of neighbour memory 43),
      (
        message_places (place_of neighbour memory 44),
        (
          message_places (place_of neighbour memory 45),
          (message_places (place_of neighbour memory 46), (message_places (place_of neighbour memory 47), (message_places (place_of neighbour memory 48), tt))),
        ),
      ),
    ),
  ),
)

-- the initial range, likewise
abbrev range_steps : List Effect
range_steps =
    make 34 (PD ∷ 3 ∷ []) ∷ listed 8 (λ i. give (place_of 3 object (40 + i)) (place_of root object (40 + i)) 2) ++ (hold (place_of root object 41) 34 ∷ [])

range_called : called message_state example_range (hypercall CREATE_PD) ≡ grant 0 range_steps
unfolding message_cap message_record dispatch descriptors listed count_below lowest boot_tables_lem pds_below is_ec free_record creation create_pd
range_called = refl

range_granted : rules message_state example_range ≡ grant 0 range_steps
range_granted = sound_rules message_state example_range message_sound ∙ range_called

range_after : after message_state example_range ≡ run range_steps message_state
range_after = after_verdict message_state example_range (grant 0 range_steps) range_granted

pub computed_range : RangeExample
unfolding message_cap message_record space_of boot_tables_lem steps listed
computed_range = (
  ap reply_of range_granted,
  (
    ap (λ (s : State). s.objects 34 domain_word) range_after,
    (
      ap (λ (s : State). s.caps (place_of root object 41)) range_after,
      (
        ap (λ (s : State). s.caps (place_of 3 object 40)) range_after,
        (ap (λ (s : State). s.caps (place_of 3 object 41)) range_after, tt),
      ),
    ),
  ),
)

pub layout_computed : LayoutExamples
unfolding space_of listed boot_tables_lem hypercall body_bytes
layout_computed =
    record {
      hypercall_numbers = (refl, (refl, (refl, (refl, (refl, (refl, (refl, (refl, (refl, (refl, (refl, (refl, (refl, (refl, tt))))))))))))));
      layout_numbers = (refl, (refl, (refl, (refl, (refl, (refl, (refl, (refl, (refl, (refl, (refl, (refl, (refl, (refl, (refl, tt)))))))))))))));
      boot_numbers = refl and refl and refl and refl and refl and refl and refl and refl and refl and refl and refl and refl and refl and refl and refl and refl and refl and refl and refl and
          refl and refl and refl and refl and refl and refl and tt;
      field_numbers = (refl, (refl, (refl, (refl, (refl, tt)))));
    }
