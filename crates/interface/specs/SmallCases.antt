-- Small cases worked by hand, for the definitions that the worked examples do not reach: the history, steps, translation, why an item is null (14.5 of the manual), and the
-- damage report.
use Rattle.std.specs.Prelude.{Ok, Err, ℕ, ◌+◌, ◌-◌, ◌≡◌, Bool, true, false, ◌&&◌, List, [], ◌∷◌, eqb, leb, ltb, if◌then◌else◌, Option, Some, None}
use Rattle.words.specs.Sizes.{block_words}
use Rattle.descriptor.specs.declared.Range.{Range}
use Rattle.descriptor.specs.declared.Reason.TheVariants.{TranslationBroke}
use Rattle.descriptor.specs.Descriptors.{Received}
use Rattle.reply.specs.declared.Fault.{Fault}
use Rattle.reply.specs.declared.Fault.TheVariants.{AtRecord, AtPlace}
use Rattle.interface.specs.Basics.{word, put, listed}
use Rattle.interface.specs.Places.{Cap, State, nothing}
use Rattle.interface.specs.Boot.{boot, hypervisor, root}
use Rattle.interface.specs.Damage.{rules_of_damage, first_fault}
use Rattle.interface.specs.Effects.{give, make, hold, cut, store, act, filled}
use Rattle.interface.specs.Message.{translate_window, descriptor_at, second_at, delegate_bit, translate_item, carried}
use Rattle.interface.specs.History.{History, held, told, note, note_all, heir}
use Rattle.interface.specs.Examples.{Each, pages}

-- hypervisor page 8 (place 8), delegated with mask 7 to root page 8 (place 392), from there with 3 to domain 2's (776), and from there with 2 to domain 3's (1160)
abbrev pub line_history : History
line_history =
    note_all (give 392 8 7 ∷ give 776 392 3 ∷ give 1160 776 2 ∷ [])
    (record { objects = boot.objects; total = 1; fillings = λ k. record { place = 8; resource = 8; permissions = 7; source = 0 } })

-- then mask 2 is revoked below root page 8, and with self from it too
abbrev pub line_cut : Bool → History
line_cut self = note (cut 2 392 1 self) line_history

-- and domain 2 delegates its page to domain 3 again
abbrev pub line_again : History
line_again = note (give 1160 776 1) (line_cut false)

-- the permissions of a history's fillings, oldest first
abbrev pub permissions_told : History → List ℕ
permissions_told h = listed h.total (λ k. (h.fillings k).permissions)

-- hypervisor pages 8 and 9, delegated to two root pages from a base on with permissions 7, and from there to pages 8 and 9 of domain 2, with permissions 7 and 3. It is not a sound
-- state, since domain 2 has no PD
abbrev pub two_pages : ℕ → State
two_pages base =
    record {
      caps =
          λ place.
          if eqb place (384 + base) then record { resource = 8; permissions = 7; parent = 9; depth = 1 } else
          if eqb place (385 + base) then record { resource = 9; permissions = 7; parent = 10; depth = 1 } else
          if eqb place 776 then record { resource = 8; permissions = 7; parent = 385 + base; depth = 2 } else
          if eqb place 777 then record { resource = 9; permissions = 3; parent = 386 + base; depth = 2 } else
          boot.caps place;
      objects = boot.objects;
    }

-- what a receiver is shown of domain 2's pages 8 and 9, through a window
abbrev pub pages_shown : ℕ → ℕ → Range → Received
pages_shown base receiver window = (translate_item (two_pages base) 2 receiver (Ok ((pages 8 1), window))).received

-- the second word that the root gets, on boot's state, of an item from itself: by the item's descriptor, its second word and the window that it is for
abbrev pub second_on_boot : (descriptor second window : ℕ) → ℕ
second_on_boot descriptor second window =
    let source = listed block_words (put (put (λ i. 0) (descriptor_at 0) descriptor) (second_at 0) second) in
    let target = listed block_words (put (λ i. 0) (translate_window + delegate_bit second) window) in
    word (carried boot root root source target 1).block (second_at 0)

-- a state with other words in one place, or in one record
abbrev pub place_changed : State → ℕ → Cap → State
place_changed s place cap = record { caps = put s.caps place cap; objects = s.objects }

abbrev pub record_changed : State → ℕ → List ℕ → State
record_changed s number words = record { caps = s.caps; objects = put s.objects number (word words) }

-- boot's state with other words in two places, and a state with other words in two records
abbrev pub places_changed : ℕ → ℕ → Cap → State
places_changed first second cap = place_changed (place_changed boot second cap) first cap

abbrev pub records_changed : State → ℕ → ℕ → State
records_changed s first second = record_changed (record_changed s second (1 ∷ [])) first (1 ∷ [])

-- boot's state with hypervisor page 0 delegated to root page 0 (place 384), from there to root page 1, and so on for as many delegations as a number says
abbrev pub deep_line : ℕ → State
deep_line delegations =
    record {
      caps =
          λ place.
          if leb 384 place && ltb place (384 + delegations)
          then record { resource = 0; permissions = 7; parent = if eqb place 384 then 1 else place; depth = place - 383 }
          else boot.caps place;
      objects = boot.objects;
    }

-- the rule that a state breaks first, and where
abbrev pub fault_of : State → Option Fault
fault_of s = first_fault s rules_of_damage

-- the faults of boot's state with one record, one place or two places changed, and of the line above
abbrev pub damage_cases : List (Type 0)
damage_cases =
    ( -- rule 4: an SM with a word that it does not name; and a kind above 5
    (fault_of (record_changed boot 31 (5 ∷ 0 ∷ 0 ∷ 7 ∷ 0 ∷ [])) ≡ Some (AtRecord 4 31))
    ∷ (fault_of (record_changed boot 31 (6 ∷ 0 ∷ 0 ∷ 0 ∷ 0 ∷ [])) ≡ Some (AtRecord 4 31))
    ∷  -- rule 5: a free record that is not all 0; and a used record after a free one
    (fault_of (record_changed boot 31 (0 ∷ 9 ∷ 0 ∷ 0 ∷ 0 ∷ [])) ≡ Some (AtRecord 5 31))
    ∷ (fault_of (record_changed boot 32 (5 ∷ 0 ∷ 0 ∷ 0 ∷ 0 ∷ [])) ≡ Some (AtRecord 5 32))
    ∷  -- rule 6: the second PD has domain 3
    (fault_of (record_changed boot 31 (1 ∷ 3 ∷ 0 ∷ 0 ∷ 0 ∷ [])) ≡ Some (AtRecord 6 31))
    ∷  -- rule 7: an EC of domain 0, which has no PD; of CPU 4; and with event base 256
    (fault_of (record_changed boot 31 (2 ∷ 0 ∷ 0 ∷ 0 ∷ 0 ∷ [])) ≡ Some (AtRecord 7 31))
    ∷ (fault_of (record_changed boot 31 (2 ∷ 1 ∷ 4 ∷ 0 ∷ 0 ∷ [])) ≡ Some (AtRecord 7 31))
    ∷ (fault_of (record_changed boot 31 (2 ∷ 1 ∷ 0 ∷ 256 ∷ 0 ∷ [])) ≡ Some (AtRecord 7 31))
    ∷  -- and none with event base 255
    (fault_of (record_changed boot 31 (2 ∷ 1 ∷ 0 ∷ 255 ∷ 0 ∷ [])) ≡ None)
    ∷  -- rule 8: an SC of priority 0 or 256, of quantum 0 or 1,048,576, and for object 28, which is a PD
    (fault_of (record_changed boot 31 (3 ∷ 29 ∷ 0 ∷ 10 ∷ 0 ∷ [])) ≡ Some (AtRecord 8 31))
    ∷ (fault_of (record_changed boot 31 (3 ∷ 29 ∷ 256 ∷ 10 ∷ 0 ∷ [])) ≡ Some (AtRecord 8 31))
    ∷ (fault_of (record_changed boot 31 (3 ∷ 29 ∷ 1 ∷ 0 ∷ 0 ∷ [])) ≡ Some (AtRecord 8 31))
    ∷ (fault_of (record_changed boot 31 (3 ∷ 29 ∷ 1 ∷ 1048576 ∷ 0 ∷ [])) ≡ Some (AtRecord 8 31))
    ∷ (fault_of (record_changed boot 31 (3 ∷ 28 ∷ 1 ∷ 10 ∷ 0 ∷ [])) ≡ Some (AtRecord 8 31))
    ∷  -- rule 9: a PT for object 28
    (fault_of (record_changed boot 31 (4 ∷ 28 ∷ 0 ∷ 0 ∷ 0 ∷ [])) ≡ Some (AtRecord 9 31))
    ∷  -- rule 11: memory outside domain 0 without a parent; with a parent that holds another page; and more than all permissions
    (fault_of (place_changed boot 392 (record { resource = 0; permissions = 7; parent = 0; depth = 0 })) ≡ Some (AtPlace 11 392))
    ∷ (fault_of (place_changed boot 392 (record { resource = 0; permissions = 7; parent = 2; depth = 1 })) ≡ Some (AtPlace 11 392))
    ∷ (fault_of (place_changed boot 392 (record { resource = 0; permissions = 8; parent = 1; depth = 1 })) ≡ Some (AtPlace 11 392))
    ∷  -- rule 11: the root's page 63 with page 62 as its parent; and no damage where the root has lost both its pages
    (fault_of (place_changed boot 447 (record { resource = 63; permissions = 1; parent = 63; depth = 1 })) ≡ Some (AtPlace 11 447))
    ∷ (fault_of (places_changed 446 447 nothing) ≡ None)
    ∷  -- rule 12: a line of 64 delegations, which ends at root page 63; one of 63 is no damage
    (fault_of (deep_line 64) ≡ Some (AtPlace 12 447))
    ∷ (fault_of (deep_line 63) ≡ None)
    ∷ [])

-- received second words: each reason why an item is null, and an item that is not
abbrev pub reason_cases : List (Type 0)
reason_cases =
    ( -- a null descriptor, the item's or its window's, also where the other one is malformed
    (second_on_boot 0 2049 33153 ≡ 3)
    ∷ (second_on_boot 413 2049 0 ≡ 3)
    ∷ (second_on_boot 3969 2049 0 ≡ 3)
    ∷ (second_on_boot 0 2049 3969 ≡ 3)
    ∷ (second_on_boot 0 0 769 ≡ 2)
    ∷  -- a malformed one, also where the types differ
    (second_on_boot 3969 2049 33153 ≡ 5)
    ∷ (second_on_boot 413 2049 3969 ≡ 5)
    ∷ (second_on_boot 3969 2049 771 ≡ 5)
    ∷ (second_on_boot 3969 0 769 ≡ 4)
    ∷  -- pages for a window of objects
    (second_on_boot 413 2049 771 ≡ 7)
    ∷ (second_on_boot 413 0 771 ≡ 6)
    ∷  -- mask 0 fills nothing; and root page 0 is null, also where the sent bits 1 to 3 are set
    (second_on_boot 385 2049 33153 ≡ 9)
    ∷ (second_on_boot 413 0 769 ≡ 10)
    ∷ (second_on_boot 413 14 769 ≡ 10)
    ∷  -- with mask 7 the hypervisor's pages 0 to 7 are delegated
    (second_on_boot 413 2049 33153 ≡ 1)
    ∷ [])

-- Each small case follows from the definitions
abbrev pub SmallCases : Type 0
SmallCases =
    Each
    ( -- the fillings of the line: each came from the one before
    (listed 4 (λ k. (line_history.fillings k).source) ≡ 0 ∷ 1 ∷ 2 ∷ 3 ∷ [])
    ∷ (permissions_told line_history ≡ 7 ∷ 7 ∷ 3 ∷ 2 ∷ [])
    ∷  -- revoking removes mask 2 below root page 8, and with self from it too, and from nothing else
    (permissions_told (line_cut false) ≡ 7 ∷ 7 ∷ 1 ∷ 0 ∷ [])
    ∷ (permissions_told (line_cut true) ≡ 7 ∷ 5 ∷ 1 ∷ 0 ∷ [])
    ∷  -- domain 3's page then holds nothing; and after another delegation its latest filling, the fifth, which came from root page 8's
    (held (line_cut false) 1160 ≡ 0)
    ∷ (held line_again 1160 ≡ 5)
    ∷ ((told line_again).caps 1160 ≡ record { resource = 8; permissions = 1; parent = 777; depth = 3 })
    ∷ (heir line_again 392 1160 ≡ true)
    ∷  -- steps that delegate nothing fill no place by delegation
    (filled (make 31 (5 ∷ []) ∷ store 31 1 (9 ∷ []) ∷ hold 300 31 ∷ cut 2 8 1 true ∷ []) boot ≡ 0)
    ∷  -- the two pages came from root pages 10 and 11, and these from hypervisor pages 8 and 9: the common permissions are 3
    (pages_shown 10 1 (pages 0 6) ≡ Ok (record { space = 0; base = 10; order = 1; mask = 3 }))
    ∷ (pages_shown 10 0 (pages 0 6) ≡ Ok (record { space = 0; base = 8; order = 1; mask = 3 }))
    ∷  -- root pages 9 and 10 are not aligned; 10 and 11 lie outside a window from 8 to 9; and the pages did not come from domain 3
    (pages_shown 9 1 (pages 0 6) ≡ Err TranslationBroke)
    ∷ (pages_shown 10 1 (pages 8 1) ≡ Err TranslationBroke)
    ∷ (pages_shown 10 3 (pages 0 6) ≡ Err TranslationBroke)
    ∷  -- a line of 62 delegations is delegated on, to domain 2's page 0 (place 768), and one of 63 is not
    ((act (give 768 445 7) (deep_line 62)).caps 768 ≡ record { resource = 0; permissions = 7; parent = 446; depth = 63 })
    ∷ ((act (give 768 446 7) (deep_line 63)).caps 768 ≡ nothing)
    ∷  -- and the end of a line of 63 is translated to where it came from, hypervisor page 0
    ((translate_item (deep_line 63) root hypervisor (Ok ((pages 62 0), (pages 0 6)))).received ≡ Ok (record { space = 0; base = 0; order = 0; mask = 7 }))
    ∷  -- received second words
    Each reason_cases
    ∷  -- boot has no fault; of places of domain 0 that changed the lower one is named, and a changed record before them
    (fault_of boot ≡ None)
    ∷ (fault_of (places_changed 9 11 (record { resource = 9; permissions = 1; parent = 0; depth = 0 })) ≡ Some (AtPlace 2 9))
    ∷ (fault_of (records_changed (places_changed 9 11 (record { resource = 9; permissions = 1; parent = 0; depth = 0 })) 2 3) ≡ Some (AtRecord 2 2))
    ∷  -- of interrupt records that are no SMs the lower one is named, and of null places that are not all 0
    (fault_of (records_changed boot 6 7) ≡ Some (AtRecord 3 6))
    ∷ (fault_of (places_changed 1000 1001 (record { resource = 1; permissions = 0; parent = 0; depth = 0 })) ≡ Some (AtPlace 10 1000))
    ∷  -- and one state, or more, that breaks each of the other rules first
    Each damage_cases
    ∷ [])
