-- The worked examples of the interface (docs/INTERFACE.md has them in words), as one list of statements under one name; one whole message and one initial range; the journal's example
-- and where the reading of a journal stops; and the numbers of the layout.
use Rattle.std.specs.Prelude.{ℕ, zero, suc, ◌+◌, ◌-◌, ◌≡◌, Bool, true, false, ◌&&◌, List, [], ◌∷◌, ◌++◌, eqb, leb, ltb, if◌then◌else◌, Ok, Err}
use Rattle.words.specs.Sizes.{memory, object, place_of, io, places, record_words, block_words, domains, records, greatest_depth}
use Rattle.words.specs.Fields.{greatest_word}
use Rattle.words.specs.Permissions.{delegated, permits}
use Rattle.descriptor.specs.declared.Range.{Range}
use Rattle.descriptor.specs.declared.Reading.TheVariants.{Malformed, Good}
use Rattle.reply.specs.declared.Refusal.TheVariants.{ComTim, BadHyp, BadCap, BadPar, BadCpu, NoRoom, Damaged, BadCaller, Short}
use Rattle.interface.specs.Basics.{word, listed}
use Rattle.interface.specs.Places.{Cap, State, nothing, parentless, PD, EC, PT, domain_word, free, SC, SM, kind_word, cpu_word, event_base_word, ec_word, priority_word, quantum_word, mtd_word, entry_word, identifier_word, count_word, named_words, greatest, create_bit, bind_sc_bit, bind_pt_bit, call_bit, object_place, cap_words, place_table_words, object_table_words}
use Rattle.interface.specs.Boot.{boot, hypervisor, root, root_ec, boot_record, cpus, gsis}
use Rattle.interface.specs.Damage.{sound_state}
use Rattle.interface.specs.RangeDescriptors.{type_of, word_of, reading, type_field, mask_field, order_field, base_field}
use Rattle.interface.specs.Effects.{Effect, give, act, run}
use Rattle.interface.specs.Revoke.{cuts, revoke}
use Rattle.interface.specs.Message.{delegations, head_words, translate_window, delegate_window, payload_words, untyped_count, typed_count, descriptor_at, second_at, delegate_bit, hypervisor_bit, hotspot_field}
use Rattle.interface.specs.Verdicts.{Call, CALL, CREATE_PD, LOOKUP, reply_of, block_of, CREATE_EC, CREATE_SC, CREATE_PT, CREATE_SM, REVOKE, SM_CTRL}
use Rattle.interface.specs.Rules.{rules, after, rule, not_built, hypercall}
use Rattle.interface.specs.Journal.{done, short, unknown, ended, replay, spelled_lines, body_bytes}
use Rattle.reply.specs.Replies.{status_of, answer_of}
use Rattle.interface.specs.Creations.{priority, quantum, create_pd, create_ec, create_sc, create_pt, create_sm}
use Rattle.interface.specs.Lookup.{around, lookup}
use Rattle.interface.specs.Semaphores.{up, down, sm_ctrl}
use Rattle.interface.specs.PortalCalls.{portal_call}

-- each of a list of statements
abbrev pub Each : List (Type 0) → Type 0
Each [] = Unit {0}
Each (statement ∷ rest) = statement × Each rest

-- a memory range of a base and an order, with all permissions for its mask
abbrev pub pages : ℕ → ℕ → Range
pages base order = record { space = memory; base = base; order = order; mask = 7 }

-- the delegation of a page from the root to another domain
abbrev pub neighbour : ℕ
neighbour = 2

abbrev pub give_page : ℕ → ℕ → Effect
give_page from to = give (place_of neighbour memory to) (place_of root memory from) 7

-- a descriptor word of a space with all five mask bits
abbrev pub descriptor_word : ℕ → ℕ → ℕ → ℕ
descriptor_word space base order = word_of (type_of space) 31 order base

-- places 0, 1, 2 in a line of descent, with permissions 7, 3 and 2
abbrev pub line : ℕ → Cap
line zero = record { resource = 5; permissions = 7; parent = 0; depth = 0 }
line (suc zero) = record { resource = 5; permissions = 3; parent = 1; depth = 1 }
line (suc (suc zero)) = record { resource = 5; permissions = 2; parent = 2; depth = 2 }
line (suc (suc (suc place))) = nothing

abbrev pub line_state : State
line_state = record { caps = line; objects = λ number index. 0 }

-- the line after REVOKE of its first place, page 0 of domain 0, with mask 2
abbrev pub line_after : Bool → State
line_after self = run (cuts hypervisor self (reading (word_of (type_of memory) 2 0 0))) line_state

abbrev pub line_permissions : State → List ℕ
line_permissions s = (s.caps 0).permissions ∷ (s.caps 1).permissions ∷ (s.caps 2).permissions ∷ []

-- LOOKUP (29, descriptor), by the root's EC
abbrev pub root_lookup : ℕ → Call
root_lookup descriptor =
    record {
      number = LOOKUP;
      caller = root_ec;
      first = descriptor;
      second = 0;
      third = 0;
      fourth = 0;
      fifth = 0;
      sixth = 0;
      source = [];
      target = [];
    }

-- the descriptor by which it asks for a selector of a space
abbrev pub selector_word : ℕ → ℕ → ℕ
selector_word space selector = word_of (type_of space) 0 0 selector

-- the line of descent as the manual places it, on boot's tables with two more domains: root page 8 (place 392) holds hypervisor page 8 with permissions 7; domain 2's page 8 (place
-- 776) holds it from there with 3; and domain 3's page 8 (place 1160) holds it from domain 2 with 2. Records 31 and 32 are the PDs of domains 2 and 3
abbrev pub placed_line : State
placed_line =
    record {
      caps =
          λ place.
          if eqb place 392 then record { resource = 8; permissions = 7; parent = 9; depth = 1 } else
          if eqb place 776 then record { resource = 8; permissions = 3; parent = 393; depth = 2 } else
          if eqb place 1160 then record { resource = 8; permissions = 2; parent = 777; depth = 3 } else
          boot.caps place;
      objects =
          λ number.
          if eqb number 31 then word (1 ∷ 2 ∷ []) else
          if eqb number 32 then word (1 ∷ 3 ∷ []) else
          boot.objects number;
    }

-- REVOKE (29, descriptor, self), by the root's EC
abbrev pub root_revoke : ℕ → ℕ → Call
root_revoke descriptor self =
    record { number = 7; caller = 29; first = descriptor; second = self; third = 0; fourth = 0; fifth = 0; sixth = 0; source = []; target = [] }

-- REVOKE (29, 32777, self) removes mask 2 below root page 8, and with self 1 from it too
abbrev pub revoke_line : ℕ → Call
revoke_line self = root_revoke 32777 self

-- what the three places show after it
abbrev pub line_revoked : ℕ → List Cap
line_revoked self = let later = after placed_line (revoke_line self) in later.caps 392 ∷ later.caps 776 ∷ later.caps 1160 ∷ []

-- the examples of the line as calls on sound tables, and those of alignment and order for objects
abbrev pub called_examples : List (Type 0)
called_examples =
    ( -- the tables are sound, and the descriptor is read as root page 8 alone with mask 2
    (sound_state placed_line ≡ true)
    ∷ (reading 32777 ≡ Good (record { space = 0; base = 8; order = 0; mask = 2 }))
    ∷  -- self 0 succeeds and leaves 7, 1, null
    (reply_of (rules placed_line (revoke_line 0)) ≡ Ok 0)
    ∷ (line_revoked 0 ≡
    record { resource = 8; permissions = 7; parent = 9; depth = 1 } ∷ record { resource = 8; permissions = 1; parent = 393; depth = 2 } ∷ nothing ∷ [])
    ∷  -- self 1 succeeds and leaves 5, 1, null
    (reply_of (rules placed_line (revoke_line 1)) ≡ Ok 0)
    ∷ (line_revoked 1 ≡
    record { resource = 8; permissions = 5; parent = 9; depth = 1 } ∷ record { resource = 8; permissions = 1; parent = 393; depth = 2 } ∷ nothing ∷ [])
    ∷  -- the tables stay sound, and hypervisor page 8 keeps its permissions
    (sound_state (after placed_line (revoke_line 1)) ≡ true)
    ∷ ((after placed_line (revoke_line 1)).caps 8 ≡ record { resource = 8; permissions = 7; parent = 0; depth = 0 })
    ∷  -- of objects too, base 8 of order 3 is good and base 4 malformed, and order 6 at base 0 is good
    (reading (descriptor_word object 8 3) ≡ Good (record { space = object; base = 8; order = 3; mask = 31 }))
    ∷ (reading (descriptor_word object 4 3) ≡ Malformed)
    ∷ (reading (descriptor_word object 0 6) ≡ Good (record { space = object; base = 0; order = 6; mask = 31 }))
    ∷ [])

-- what REVOKE answers for masks of a page, a port and an object selector, after boot
abbrev pub mask_examples : List (Type 0)
mask_examples =
    ( -- page 8: masks 0 and 8 have no permission of memory, mask 4 has one
    (reply_of (rules boot (root_revoke 32769 0)) ≡ Err BadPar)
    ∷ (reply_of (rules boot (root_revoke 32801 0)) ≡ Err BadPar)
    ∷ (reply_of (rules boot (root_revoke 32785 0)) ≡ Ok 0)
    ∷  -- port 8: mask 2 has none of I/O, mask 3 has one
    (reply_of (rules boot (root_revoke 32778 0)) ≡ Err BadPar)
    ∷ (reply_of (rules boot (root_revoke 32782 0)) ≡ Ok 0)
    ∷  -- object selector 40: mask 0 has none, mask 16 has one of a PD's
    (reply_of (rules boot (root_revoke 163843 0)) ≡ Err BadPar)
    ∷ (reply_of (rules boot (root_revoke 163907 0)) ≡ Ok 0)
    ∷  -- the null descriptor, with mask 0 and with mask 8
    (reply_of (rules boot (root_revoke 0 0)) ≡ Ok 0)
    ∷ (reply_of (rules boot (root_revoke 32 0)) ≡ Ok 0)
    ∷ [])

-- boot's tables with the hypervisor's objects 0 to 15 delegated with mask 1 to the root's selectors 192 to 207 (places 704 to 719)
abbrev pub objects_taken : State
objects_taken =
    record {
      caps =
          λ place.
          if leb 704 place && ltb place 720 then record { resource = place - 704; permissions = 1; parent = place - 704 + 129; depth = 1 } else
          boot.caps place;
      objects = boot.objects;
    }

-- a space in which each selector shows the resource of its own number
abbrev pub rising_caps : ℕ → Cap
rising_caps selector = record { resource = selector; permissions = 1; parent = 0; depth = 0 }

-- what LOOKUP answers for the whole object space, and around selectors above 63
abbrev pub lookup_examples : List (Type 0)
lookup_examples =
    ( -- the whole object space, order 8, is asked for by its base, which is null after boot; order 9 is malformed
    (reply_of (rules boot (root_lookup 1027)) ≡ Ok 0)
    ∷ (reply_of (rules boot (root_lookup 1155)) ≡ Err BadPar)
    ∷  -- where the root has taken objects 0 to 15, the range around selector 200 is 192 of order 4, and base 456 asks for the same
    (sound_state objects_taken ≡ true)
    ∷ (reply_of (rules objects_taken (root_lookup (selector_word object 200))) ≡ Ok 786951)
    ∷ (reply_of (rules objects_taken (root_lookup (selector_word object 456))) ≡ Ok 786951)
    ∷ (reply_of (rules objects_taken (root_lookup (selector_word object 208))) ≡ Ok 0)
    ∷  -- the search goes up to order 8 among objects, and to order 6 in memory
    (around rising_caps object 200 ≡ record { space = object; base = 0; order = 8; mask = 1 })
    ∷ (around rising_caps memory 40 ≡ record { space = memory; base = 0; order = 6; mask = 1 })
    ∷ [])

-- the worked examples
abbrev pub WorkedExamples : Type 0
WorkedExamples =
    Each
    ( -- 8 of order 2 to 32 of order 4, hotspot 23: 8..11 to 36..39
    (delegations root neighbour 23 (pages 8 2) (pages 32 4) ≡ give_page 8 36 ∷ give_page 9 37 ∷ give_page 10 38 ∷ give_page 11 39 ∷ [])
    ∷  -- 16 of order 4 to 4 of order 1, hotspot 13: 28..29 to 4..5
    (delegations root neighbour 13 (pages 16 4) (pages 4 1) ≡ give_page 28 4 ∷ give_page 29 5 ∷ [])
    ∷  -- base 8 of order 3 is good, base 4 malformed
    (reading (descriptor_word memory 8 3) ≡ Good (record { space = memory; base = 8; order = 3; mask = 31 }))
    ∷ (reading (descriptor_word memory 4 3) ≡ Malformed)
    ∷  -- order 6 of memory at base 0 is good, order 7 malformed, and so of I/O
    (reading (descriptor_word memory 0 6) ≡ Good (record { space = memory; base = 0; order = 6; mask = 31 }))
    ∷ (reading (descriptor_word memory 0 7) ≡ Malformed)
    ∷ (reading (descriptor_word io 0 6) ≡ Good (record { space = io; base = 0; order = 6; mask = 31 }))
    ∷ (reading (descriptor_word io 0 7) ≡ Malformed)
    ∷  -- of objects orders 7 and 8 are good, order 9 malformed; and base 64 is no multiple of 256
    (reading (descriptor_word object 128 7) ≡ Good (record { space = object; base = 128; order = 7; mask = 31 }))
    ∷ (reading (descriptor_word object 0 8) ≡ Good (record { space = object; base = 0; order = 8; mask = 31 }))
    ∷ (reading (descriptor_word object 0 9) ≡ Malformed)
    ∷ (reading (descriptor_word object 64 8) ≡ Malformed)
    ∷  -- object base 256 is 0, and 64 stays; memory base 64 is malformed
    (reading (descriptor_word object 256 0) ≡ Good (record { space = object; base = 0; order = 0; mask = 31 }))
    ∷ (reading (descriptor_word object 64 0) ≡ Good (record { space = object; base = 64; order = 0; mask = 31 }))
    ∷ (reading (descriptor_word memory 64 0) ≡ Malformed)
    ∷  -- permissions 7 with mask 3 give 3, with mask 0 nothing
    (delegated 7 3 ≡ 3)
    ∷ ((act (give 3 0 3) line_state).caps 3 ≡ record { resource = 5; permissions = 3; parent = 1; depth = 1 })
    ∷ ((act (give 3 0 0) line_state).caps 3 ≡ nothing)
    ∷  -- a line 7, 3, 2 and mask 2: self 0 leaves 7, 1, null; self 1 leaves 5, 1, null
    (line_permissions (line_after false) ≡ 7 ∷ 1 ∷ 0 ∷ [])
    ∷ ((line_after false).caps 2 ≡ nothing)
    ∷ (line_permissions (line_after true) ≡ 5 ∷ 1 ∷ 0 ∷ [])
    ∷ ((line_after true).caps 2 ≡ nothing)
    ∷  -- the root's LOOKUP of object selectors after boot: 131199 at 32, 0 at 35
    (reply_of (rules boot (root_lookup (selector_word object 32))) ≡ Ok 131199)
    ∷ (reply_of (rules boot (root_lookup (selector_word object 35))) ≡ Ok 0)
    ∷  -- and of its pages: 258053 at 63, 253965 at 62, 0 at 61
    (reply_of (rules boot (root_lookup (selector_word memory 63))) ≡ Ok 258053)
    ∷ (reply_of (rules boot (root_lookup (selector_word memory 62))) ≡ Ok 253965)
    ∷ (reply_of (rules boot (root_lookup (selector_word memory 61))) ≡ Ok 0)
    ∷  -- the line as calls, and objects' alignment and orders
    Each called_examples
    ∷  -- the masks of REVOKE
    Each mask_examples
    ∷  -- LOOKUP of large ranges and above selector 63
    Each lookup_examples
    ∷ [])

-- a page that was delegated: its number, its permissions, the place it came from, its depth
abbrev pub lent_page : ℕ → ℕ → ℕ → ℕ → Cap
lent_page number permissions source depth = record { resource = number; permissions = permissions; parent = source + 1; depth = depth }

-- after boot there are also PD 31 of domain 2, EC 32 in it and portal 33 to that; the root holds the portal at selector 40, and capabilities for objects 31 and 32 are left out. The
-- hypervisor's pages 6 and 7 have gone to the root's pages 6 and 7, from there to domain 2's pages 20 and 21, and from there back to the root's pages 48 and 49, the first without
-- permission to execute
unfoldable pub message_cap : ℕ → Cap
message_cap place =
    if eqb place (place_of root object 40) then parentless 33 3 else
    if eqb place (place_of root memory 6) then lent_page 6 7 (place_of hypervisor memory 6) 1 else
    if eqb place (place_of root memory 7) then lent_page 7 7 (place_of hypervisor memory 7) 1 else
    if eqb place (place_of neighbour memory 20) then lent_page 6 7 (place_of root memory 6) 2 else
    if eqb place (place_of neighbour memory 21) then lent_page 7 7 (place_of root memory 7) 2 else
    if eqb place (place_of root memory 48) then lent_page 6 3 (place_of neighbour memory 20) 3 else
    if eqb place (place_of root memory 49) then lent_page 7 7 (place_of neighbour memory 21) 3 else
    boot.caps place

unfoldable pub message_record : ℕ → List ℕ
message_record number =
    if eqb number 31 then PD ∷ neighbour ∷ [] else
    if eqb number 32 then EC ∷ neighbour ∷ [] else
    if eqb number 33 then PT ∷ 32 ∷ [] else
    boot_record number

abbrev pub message_state : State
message_state = record { caps = message_cap; objects = λ number. word (message_record number) }

-- the root's message through that portal, of two untyped words (4 and 5) and three items. Item 0 (words 63 and 62) delegates its pages 6 and 7 with mask 3 and hotspot 1048557,
-- whose last six bits are 45; item 1 (61 and 60) translates its pages 48 and 49 with mask 5; item 2 (59 and 58) delegates the hypervisor's pages 4 to 7 with mask 7 and hotspot 46
abbrev pub sent_block : List ℕ
sent_block =
    196610 ∷ 11 ∷ 22 ∷ 33 ∷ 1000 ∷ 2000 ∷ 106 ∷ 107 ∷ 108 ∷ 109 ∷ 110 ∷ 111 ∷ 112 ∷ 113 ∷ 114 ∷ 115 ∷
    116 ∷ 117 ∷ 118 ∷ 119 ∷ 120 ∷ 121 ∷ 122 ∷ 123 ∷ 124 ∷ 125 ∷ 126 ∷ 127 ∷ 128 ∷ 129 ∷ 130 ∷ 131 ∷
    132 ∷ 133 ∷ 134 ∷ 135 ∷ 136 ∷ 137 ∷ 138 ∷ 139 ∷ 140 ∷ 141 ∷ 142 ∷ 143 ∷ 144 ∷ 145 ∷ 146 ∷ 147 ∷
    148 ∷ 149 ∷ 150 ∷ 151 ∷ 152 ∷ 153 ∷ 154 ∷ 155 ∷ 156 ∷ 157 ∷ 190465 ∷ 16669 ∷ 30720 ∷ 196757 ∷ 4294891009 ∷ 24717 ∷ []

-- the callee's block before the call: its window for translations (word 1) is pages 16 to 31, that for delegations (word 2) all pages
abbrev pub block_before : List ℕ
block_before =
    7 ∷ 66049 ∷ 769 ∷ 99 ∷ 504 ∷ 505 ∷ 506 ∷ 507 ∷ 508 ∷ 509 ∷ 510 ∷ 511 ∷ 512 ∷ 513 ∷ 514 ∷ 515 ∷
    516 ∷ 517 ∷ 518 ∷ 519 ∷ 520 ∷ 521 ∷ 522 ∷ 523 ∷ 524 ∷ 525 ∷ 526 ∷ 527 ∷ 528 ∷ 529 ∷ 530 ∷ 531 ∷
    532 ∷ 533 ∷ 534 ∷ 535 ∷ 536 ∷ 537 ∷ 538 ∷ 539 ∷ 540 ∷ 541 ∷ 542 ∷ 543 ∷ 544 ∷ 545 ∷ 546 ∷ 547 ∷
    548 ∷ 549 ∷ 550 ∷ 551 ∷ 552 ∷ 553 ∷ 554 ∷ 555 ∷ 556 ∷ 557 ∷ 558 ∷ 559 ∷ 560 ∷ 561 ∷ 562 ∷ 563 ∷ []

-- and after it: item 0 shows pages 44 and 45 with mask 3; item 1 shows pages 20 and 21 with mask 5 AND 3 AND 7; item 2 shows pages 44 to 47 with mask 7
abbrev pub block_received : List ℕ
block_received =
    196610 ∷ 66049 ∷ 769 ∷ 99 ∷ 1000 ∷ 2000 ∷ 506 ∷ 507 ∷ 508 ∷ 509 ∷ 510 ∷ 511 ∷ 512 ∷ 513 ∷ 514 ∷ 515 ∷
    516 ∷ 517 ∷ 518 ∷ 519 ∷ 520 ∷ 521 ∷ 522 ∷ 523 ∷ 524 ∷ 525 ∷ 526 ∷ 527 ∷ 528 ∷ 529 ∷ 530 ∷ 531 ∷
    532 ∷ 533 ∷ 534 ∷ 535 ∷ 536 ∷ 537 ∷ 538 ∷ 539 ∷ 540 ∷ 541 ∷ 542 ∷ 543 ∷ 544 ∷ 545 ∷ 546 ∷ 547 ∷
    548 ∷ 549 ∷ 550 ∷ 551 ∷ 552 ∷ 553 ∷ 554 ∷ 555 ∷ 556 ∷ 557 ∷ 1 ∷ 180509 ∷ 0 ∷ 82053 ∷ 1 ∷ 180365 ∷ []

-- the call: the root's EC sends the message through the portal
abbrev pub example_message : Call
example_message =
    record {
      number = CALL;
      caller = root_ec;
      first = 40;
      second = 0;
      third = 0;
      fourth = 0;
      fifth = 0;
      sixth = 0;
      source = sent_block;
      target = block_before;
    }

-- the call succeeds and has filled four places; each of the 64 words is received as above; item 0 has filled pages 44 and 45, so that item 2 fills only 46 and 47, and no page beside
-- them is filled
abbrev pub MessageExample : Type 0
MessageExample =
    Each
    ((reply_of (rules message_state example_message) ≡ Ok 4)
    ∷ (block_of block_before (rules message_state example_message) ≡ block_received)
    ∷ ((after message_state example_message).caps (place_of neighbour memory 43) ≡ nothing)
    ∷ ((after message_state example_message).caps (place_of neighbour memory 44) ≡ lent_page 6 3 (place_of root memory 6) 2)
    ∷ ((after message_state example_message).caps (place_of neighbour memory 45) ≡ lent_page 7 3 (place_of root memory 7) 2)
    ∷ ((after message_state example_message).caps (place_of neighbour memory 46) ≡ lent_page 6 7 (place_of hypervisor memory 6) 1)
    ∷ ((after message_state example_message).caps (place_of neighbour memory 47) ≡ lent_page 7 7 (place_of hypervisor memory 7) 1)
    ∷ ((after message_state example_message).caps (place_of neighbour memory 48) ≡ nothing)
    ∷ [])

-- CREATE_PD by the root's EC on the same state: new selector 41, PD selector 32, and an initial range of the object selectors 40 to 47 with mask 2
abbrev pub example_range : Call
example_range =
    record {
      number = CREATE_PD;
      caller = root_ec;
      first = 41;
      second = 32;
      third = word_of (type_of object) 2 3 40;
      fourth = 0;
      fifth = 0;
      sixth = 0;
      source = [];
      target = [];
    }

-- the new PD is object 34, of domain 3, and the root has it at selector 41; domain 3 has the portal at selector 40, with permissions 3 AND 2, and nothing at selector 41: the root's
-- selector 41 was null when the range was delegated
abbrev pub RangeExample : Type 0
RangeExample =
    Each
    ((reply_of (rules message_state example_range) ≡ Ok 0)
    ∷ ((after message_state example_range).objects 34 domain_word ≡ 3)
    ∷ ((after message_state example_range).caps (place_of root object 41) ≡ parentless 34 31)
    ∷ ((after message_state example_range).caps (place_of 3 object 40) ≡ record { resource = 33; permissions = 2; parent = place_of root object 40 + 1; depth = 1 })
    ∷ ((after message_state example_range).caps (place_of 3 object 41) ≡ nothing)
    ∷ [])

-- the journal's whole example: CREATE_SM (29, 40, 32, 0), LOOKUP (29, 163843)
abbrev pub example_journal : List ℕ
example_journal =
    6 ∷ 29 ∷ 0 ∷ 0 ∷ 0 ∷ 40 ∷ 0 ∷ 0 ∷ 0 ∷ 32 ∷ 0 ∷ 0 ∷ 0 ∷ 0 ∷ 0 ∷ 0 ∷ 0 ∷
    8 ∷ 29 ∷ 0 ∷ 0 ∷ 0 ∷ 3 ∷ 128 ∷ 2 ∷ 0 ∷ []

-- its lines, and their text: "0 6 0 0", "1 8 0 163855", "end 2"
abbrev pub JournalExample : Type 0
JournalExample =
    Each
    ((replay example_journal ≡ done 0 6 0 0 ∷ done 1 8 0 163855 ∷ ended 2 ∷ [])
    ∷ (spelled_lines (replay example_journal) ≡
    48 ∷ 32 ∷ 54 ∷ 32 ∷ 48 ∷ 32 ∷ 48 ∷ 10 ∷
    49 ∷ 32 ∷ 56 ∷ 32 ∷ 48 ∷ 32 ∷ 49 ∷ 54 ∷ 51 ∷ 56 ∷ 53 ∷ 53 ∷ 10 ∷
    101 ∷ 110 ∷ 100 ∷ 32 ∷ 50 ∷ 10 ∷ [])
    ∷ [])

-- a whole record: LOOKUP (29, 163843), which after boot answers 0
abbrev pub lookup_record : List ℕ
lookup_record = 8 ∷ 29 ∷ 0 ∷ 0 ∷ 0 ∷ 3 ∷ 128 ∷ 2 ∷ 0 ∷ []

-- where the reading of a journal stops: at its end, at a record that is short, and at a kind that is none; the last line counts the whole records before
abbrev pub JournalStops : Type 0
JournalStops =
    Each
    ( -- the empty journal: "end 0"
    (replay [] ≡ ended 0 ∷ [])
    ∷ (spelled_lines (replay []) ≡ 101 ∷ 110 ∷ 100 ∷ 32 ∷ 48 ∷ 10 ∷ [])
    ∷  -- a known kind byte alone: "cut", "end 0"
    (replay (6 ∷ []) ≡ short ∷ ended 0 ∷ [])
    ∷ (spelled_lines (replay (6 ∷ [])) ≡ 99 ∷ 117 ∷ 116 ∷ 10 ∷ 101 ∷ 110 ∷ 100 ∷ 32 ∷ 48 ∷ 10 ∷ [])
    ∷  -- a record that lacks its last byte, alone and after a whole one
    (replay (8 ∷ 29 ∷ 0 ∷ 0 ∷ 0 ∷ 3 ∷ 128 ∷ 2 ∷ []) ≡ short ∷ ended 0 ∷ [])
    ∷ (replay (lookup_record ++ (8 ∷ 29 ∷ 0 ∷ 0 ∷ 0 ∷ 3 ∷ 128 ∷ 2 ∷ [])) ≡ done 0 8 0 0 ∷ short ∷ ended 1 ∷ [])
    ∷  -- a kind that is none: at the start, and after a whole record, whatever follows it: "0 8 0 0", "bad 255", "end 1"
    (replay (1 ∷ []) ≡ unknown 1 ∷ ended 0 ∷ [])
    ∷ (replay (lookup_record ++ (255 ∷ lookup_record)) ≡ done 0 8 0 0 ∷ unknown 255 ∷ ended 1 ∷ [])
    ∷ (spelled_lines (replay (lookup_record ++ (255 ∷ lookup_record))) ≡
    48 ∷ 32 ∷ 56 ∷ 32 ∷ 48 ∷ 32 ∷ 48 ∷ 10 ∷ 98 ∷ 97 ∷ 100 ∷ 32 ∷ 50 ∷ 53 ∷ 53 ∷ 10 ∷ 101 ∷ 110 ∷ 100 ∷ 32 ∷ 49 ∷ 10 ∷ [])
    ∷  -- a record whose call is refused is whole: SM_CTRL by object 0, which is no EC
    (replay (11 ∷ 0 ∷ 0 ∷ 0 ∷ 0 ∷ 0 ∷ 0 ∷ 0 ∷ 0 ∷ 0 ∷ 0 ∷ 0 ∷ 0 ∷ []) ≡ done 0 11 18 0 ∷ ended 1 ∷ [])
    ∷ [])

-- the words of a record at boot, some words with zeros after them up to a record's width, and the four words of a place
abbrev pub boot_words : ℕ → List ℕ
boot_words number = listed record_words (boot.objects number)

abbrev pub padded : List ℕ → List ℕ
padded words = listed record_words (word words)

abbrev pub boot_place : ℕ → List ℕ
boot_place place = cap_words (boot.caps place)

-- the numbers of the hypercalls
abbrev pub HypercallNumbers : Type 0
HypercallNumbers =
    Each
    ( -- the hypercalls 0, 2 to 8 and 11 are built, and the numbers between and after them are not
    (hypercall 0 ≡ rule portal_call)
    ∷ (hypercall 1 ≡ not_built)
    ∷ (hypercall 2 ≡ rule create_pd)
    ∷ (hypercall 3 ≡ rule create_ec)
    ∷ (hypercall 4 ≡ rule create_sc)
    ∷ (hypercall 5 ≡ rule create_pt)
    ∷ (hypercall 6 ≡ rule create_sm)
    ∷ (hypercall 7 ≡ rule revoke)
    ∷ (hypercall 8 ≡ rule lookup)
    ∷ (hypercall 9 ≡ not_built)
    ∷ (hypercall 10 ≡ not_built)
    ∷ (hypercall 11 ≡ rule sm_ctrl)
    ∷ (hypercall 12 ≡ not_built)
    ∷  -- by their names
    (CALL ∷ CREATE_PD ∷ CREATE_EC ∷ CREATE_SC ∷ CREATE_PT ∷ CREATE_SM ∷ REVOKE ∷ LOOKUP ∷ SM_CTRL ∷ [] ≡ 0 ∷ 2 ∷ 3 ∷ 4 ∷ 5 ∷ 6 ∷ 7 ∷ 8 ∷ 11 ∷ [])
    ∷ [])

-- the numbers of kinds, words, permissions, bodies, statuses and places
abbrev pub LayoutNumbers : Type 0
LayoutNumbers =
    Each
    ( -- the kinds, and how many words each names
    (free ∷ PD ∷ EC ∷ SC ∷ PT ∷ SM ∷ [] ≡ 0 ∷ 1 ∷ 2 ∷ 3 ∷ 4 ∷ 5 ∷ [])
    ∷ (listed 6 named_words ≡ 0 ∷ 1 ∷ 3 ∷ 3 ∷ 4 ∷ 1 ∷ [])
    ∷  -- which word of a record is which: the kind; an EC's (and a PD's) domain, the CPU, the event base
    (kind_word ∷ domain_word ∷ cpu_word ∷ event_base_word ∷ [] ≡ 0 ∷ 1 ∷ 2 ∷ 3 ∷ [])
    ∷  -- an SC's EC, priority and quantum
    (ec_word ∷ priority_word ∷ quantum_word ∷ [] ≡ 1 ∷ 2 ∷ 3 ∷ [])
    ∷  -- a PT's EC, MTD, entry IP and identifier; an SM's count
    (ec_word ∷ mtd_word ∷ entry_word ∷ identifier_word ∷ count_word ∷ [] ≡ 1 ∷ 2 ∷ 3 ∷ 4 ∷ 1 ∷ [])
    ∷  -- the greatest permissions of memory, of I/O, and of a PD, an EC, an SC, a PT and an SM
    (greatest memory PD ∷ greatest io PD ∷ greatest object PD ∷ greatest object EC ∷ greatest object SC ∷ greatest object PT ∷ greatest object SM ∷ [] ≡
    7 ∷ 1 ∷ 31 ∷ 7 ∷ 1 ∷ 3 ∷ 3 ∷ [])
    ∷  -- the bits that create a PD, an EC, an SC, a PT and an SM; that bind an SC and a PT; that call; that count up and down
    (create_bit PD ∷ create_bit EC ∷ create_bit SC ∷ create_bit PT ∷ create_bit SM ∷ [] ≡ 0 ∷ 1 ∷ 2 ∷ 3 ∷ 4 ∷ [])
    ∷ (bind_sc_bit ∷ bind_pt_bit ∷ call_bit ∷ up ∷ down ∷ [] ≡ 1 ∷ 2 ∷ 1 ∷ 0 ∷ 1 ∷ [])
    ∷  -- a bit is permitted where it is set: of 4, bit 2 alone
    (permits 0 4 ∷ permits 1 4 ∷ permits 2 4 ∷ permits 3 4 ∷ [] ≡ false ∷ false ∷ true ∷ false ∷ [])
    ∷  -- how many bytes follow each kind byte of the journal from 0 on
    (listed 13 body_bytes ≡ 520 ∷ 0 ∷ 16 ∷ 20 ∷ 20 ∷ 28 ∷ 16 ∷ 12 ∷ 8 ∷ 0 ∷ 0 ∷ 12 ∷ 0 ∷ [])
    ∷  -- the statuses, in the order of the table, and the answers
    (status_of (Ok 9) ∷ status_of (Err ComTim) ∷ status_of (Err BadHyp) ∷ status_of (Err BadCap) ∷ status_of (Err BadPar) ∷ status_of (Err BadCpu) ∷ status_of (Err NoRoom) ∷ status_of (Err Damaged) ∷
    status_of (Err BadCaller) ∷ status_of (Err (Short 9)) ∷ [] ≡
    0 ∷ 1 ∷ 3 ∷ 4 ∷ 5 ∷ 7 ∷ 16 ∷ 17 ∷ 18 ∷ 19 ∷ [])
    ∷ (answer_of (Ok 9) ∷ answer_of (Err ComTim) ∷ answer_of (Err BadHyp) ∷ answer_of (Err BadCap) ∷ answer_of (Err BadPar) ∷ answer_of (Err BadCpu) ∷ answer_of (Err NoRoom) ∷ answer_of (Err Damaged) ∷
    answer_of (Err BadCaller) ∷ answer_of (Err (Short 9)) ∷ [] ≡
    9 ∷ 0 ∷ 0 ∷ 0 ∷ 0 ∷ 0 ∷ 0 ∷ 0 ∷ 0 ∷ 9 ∷ [])
    ∷  -- places: the first of domain 0's I/O and object spaces, the root's PD, the last of all; how many there are, and the words of both tables
    (place_of 0 1 0 ∷ place_of 0 2 0 ∷ place_of 1 2 32 ∷ place_of 7 2 255 ∷ places ∷ place_table_words ∷ object_table_words ∷ [] ≡
    64 ∷ 128 ∷ 544 ∷ 3071 ∷ 3072 ∷ 12288 ∷ 320 ∷ [])
    ∷  -- domains, records and the words of one, CPUs, interrupts, the greatest depth and the greatest word
    (domains ∷ records ∷ record_words ∷ cpus ∷ gsis ∷ greatest_depth ∷ greatest_word ∷ [] ≡ 8 ∷ 64 ∷ 5 ∷ 4 ∷ 24 ∷ 63 ∷ 4294967295 ∷ [])
    ∷  -- an object selector wraps: the root's 288 is its 32, and its 96 stays
    (object_place 1 288 ∷ object_place 1 96 ∷ [] ≡ 544 ∷ 608 ∷ [])
    ∷ [])

-- the words of records and places at boot
abbrev pub BootNumbers : Type 0
BootNumbers =
    Each
    ( -- boot's records: the first and the last idle SC, the first and the last interrupt semaphore, the root's PD, EC and SC, and the first that is free
    (boot_words 0 ≡ padded (3 ∷ 64 ∷ []))
    ∷ (boot_words 3 ≡ padded (3 ∷ 64 ∷ []))
    ∷ (boot_words 4 ≡ padded (5 ∷ []))
    ∷ (boot_words 27 ≡ padded (5 ∷ []))
    ∷ (boot_words 28 ≡ padded (1 ∷ 1 ∷ []))
    ∷ (boot_words 29 ≡ padded (2 ∷ 1 ∷ []))
    ∷ (boot_words 30 ≡ padded (3 ∷ 29 ∷ 1 ∷ 10000 ∷ []))
    ∷ (boot_words 31 ≡ padded [])
    ∷  -- boot's places: page 63, port 0, the first idle SC and the first interrupt semaphore, the last one, and the null place after it
    (boot_place 63 ≡ 63 ∷ 7 ∷ 0 ∷ 0 ∷ [])
    ∷ (boot_place 64 ≡ 0 ∷ 1 ∷ 0 ∷ 0 ∷ [])
    ∷ (boot_place 128 ≡ 0 ∷ 1 ∷ 0 ∷ 0 ∷ [])
    ∷ (boot_place 132 ≡ 4 ∷ 3 ∷ 0 ∷ 0 ∷ [])
    ∷ (boot_place 155 ≡ 27 ∷ 3 ∷ 0 ∷ 0 ∷ [])
    ∷ (boot_place 156 ≡ 0 ∷ 0 ∷ 0 ∷ 0 ∷ [])
    ∷  -- the UTCB of the root's EC and the information page, and the null places around them
    (boot_place 445 ≡ 0 ∷ 0 ∷ 0 ∷ 0 ∷ [])
    ∷ (boot_place 446 ≡ 62 ∷ 3 ∷ 63 ∷ 1 ∷ [])
    ∷ (boot_place 447 ≡ 63 ∷ 1 ∷ 64 ∷ 1 ∷ [])
    ∷ (boot_place 448 ≡ 0 ∷ 0 ∷ 0 ∷ 0 ∷ [])
    ∷  -- the root's PD, EC and SC, the null places around them, its page 0, and a place of domain 2
    (boot_place 543 ≡ 0 ∷ 0 ∷ 0 ∷ 0 ∷ [])
    ∷ (boot_place 544 ≡ 28 ∷ 31 ∷ 0 ∷ 0 ∷ [])
    ∷ (boot_place 545 ≡ 29 ∷ 7 ∷ 0 ∷ 0 ∷ [])
    ∷ (boot_place 546 ≡ 30 ∷ 1 ∷ 0 ∷ 0 ∷ [])
    ∷ (boot_place 547 ≡ 0 ∷ 0 ∷ 0 ∷ 0 ∷ [])
    ∷ (boot_place 384 ≡ 0 ∷ 0 ∷ 0 ∷ 0 ∷ [])
    ∷ (boot_place 768 ≡ 0 ∷ 0 ∷ 0 ∷ 0 ∷ [])
    ∷ [])

-- the fields of words, and the words of a message block
abbrev pub FieldNumbers : Type 0
FieldNumbers =
    Each
    ( -- the fields of a descriptor, type 3, mask 21, order 2 and base 40; and of a QPD, priority 1 and quantum 10,000, whose bits 8 to 11 are ignored
    (type_field 164183 ∷ mask_field 164183 ∷ order_field 164183 ∷ base_field 164183 ∷ [] ≡ 3 ∷ 21 ∷ 2 ∷ 40 ∷ [])
    ∷ (priority 40963841 ∷ quantum 40963841 ∷ [] ≡ 1 ∷ 10000 ∷ [])
    ∷  -- the message block: its words, those before the payload, the payload's, and the windows for translate and delegate
    (block_words ∷ head_words ∷ payload_words ∷ translate_window ∷ delegate_window ∷ [] ≡ 64 ∷ 4 ∷ 60 ∷ 1 ∷ 2 ∷ [])
    ∷  -- word 0 with u 3 and t 2; and the words of items 0 and 1, from w59 downward
    (untyped_count 131075 ∷ typed_count 131075 ∷ descriptor_at 0 ∷ second_at 0 ∷ descriptor_at 1 ∷ second_at 1 ∷ [] ≡ 3 ∷ 2 ∷ 63 ∷ 62 ∷ 61 ∷ 60 ∷ [])
    ∷  -- an item's second word: delegate, with hotspot 23; and translate, with H
    (delegate_bit 94209 ∷ hypervisor_bit 94209 ∷ hotspot_field 94209 ∷ delegate_bit 2048 ∷ hypervisor_bit 2048 ∷ hotspot_field 2048 ∷ [] ≡ 1 ∷ 0 ∷ 23 ∷ 0 ∷ 1 ∷ 0 ∷ [])
    ∷ [])

-- The numbers of the layout are the manual's
pub record LayoutExamples : Type 0 where
  pub hypercall_numbers : HypercallNumbers
  pub layout_numbers : LayoutNumbers
  pub boot_numbers : BootNumbers
  pub field_numbers : FieldNumbers
