-- Refusals: each refusal of a call by an EC on a sound state has exactly its cause, and the call is granted exactly where none applies. The causes are facts of what the tables
-- show and of the call's words; a cause behind a check says too that the check was passed.
use Rattle.std.specs.Prelude.{ℕ, ◌+◌, ◌-◌, ◌*◌, ◌%◌, ◌^◌, ◌≤◌, ◌<◌, ◌≡◌, ◌↔◌, ◌⊎◌, true, false, List, [], ◌∷◌, length, Ok, Err}
use Rattle.words.specs.Fields.{bits, greatest_word}
use Rattle.words.specs.Sizes.{domains, object, places, records, block_words}
use Rattle.reply.specs.Replies.{status_of, Reply}
use Rattle.descriptor.specs.declared.Range.{Range}
use Rattle.descriptor.specs.declared.Reading.TheVariants.{Malformed, Good}
use Rattle.reply.specs.declared.Refusal.TheVariants.{ComTim, BadHyp, BadCap, BadPar, BadCpu, NoRoom, BadCaller, Short}
use Rattle.interface.specs.Basics.{word, member}
use Rattle.interface.specs.Places.{State, Tables, shown, free, PD, EC, SC, PT, SM, ec_word, cpu_word, count_word, create_bit, bind_sc_bit, bind_pt_bit, call_bit, kind_of, object_place, object_in}
use Rattle.interface.specs.Damage.{sound_state, sound, has_pd, is_ec}
use Rattle.interface.specs.RangeDescriptors.{type_field, mask_field, order_field, base_field, reading}
use Rattle.interface.specs.Effects.{Effect}
use Rattle.interface.specs.Verdicts.{Call, CALL, CREATE_PD, CREATE_EC, CREATE_SC, CREATE_PT, CREATE_SM, REVOKE, LOOKUP, SM_CTRL, caller_domain, grant, reply_of}
use Rattle.interface.specs.Creations.{new_place, pd_place, ec_place}
use Rattle.interface.specs.Message.{payload_words, untyped_count, typed_count, item_words}
use Rattle.interface.specs.Rules.{rules, after}
use Rattle.interface.specs.Census.{descendants, census_of}

-- what holds of every call of a number by an EC on a sound state
abbrev pub Every : ℕ → (State → Call → Type 0) → Type 0
Every number Holding = (s : State) (c : Call) → sound_state s ≡ true → is_ec s c.caller ≡ true → c.number ≡ number → Holding s c

-- a call is answered with a reply
abbrev pub Answers : State → Call → Reply → Type 0
Answers s c reply = reply_of (rules s c) ≡ reply

-- a call is answered with one of some statuses, and with no other
abbrev pub StatusAmong : List ℕ → State → Call → Type 0
StatusAmong statuses s c = member (status_of (reply_of (rules s c))) statuses ≡ true

-- the numbers of the hypercalls that are built
abbrev pub built_numbers : List ℕ
built_numbers = 0 ∷ 2 ∷ 3 ∷ 4 ∷ 5 ∷ 6 ∷ 7 ∷ 8 ∷ 11 ∷ []

-- a number is that of a record of kind EC
abbrev pub NamesEc : State → ℕ → Type 0
NamesEc s number = (number < records) × (kind_of s number ≡ EC)

-- a cause behind a check: the check was passed, and the cause applies
infixr 3 ◌and_then◌
abbrev pub ◌and_then◌ : Type 0 → Type 0 → Type 0
passed and_then cause = passed × cause

-- a word that is no descriptor: its type is not 0, and its order is above 8, or its base is no multiple of 2 ^ order, or it is of memory or I/O and ends past 64,
-- as it does with every order above 6
abbrev pub NoDescriptor : ℕ → Type 0
NoDescriptor word =
    (type_field word ≡ 0 → ⊥) and_then
    ((8 < order_field word) ⊎
    ((base_field word % 2 ^ order_field word ≡ 0 → ⊥) ⊎ ((type_field word ≡ 3 → ⊥) and_then (64 < base_field word + 2 ^ order_field word))))

-- A word is read as malformed exactly where it is no descriptor
abbrev pub MalformedExactly : Type 0
MalformedExactly = (word : ℕ) → (reading word ≡ Malformed) ↔ NoDescriptor word

-- On a sound state BAD_HYP is answered exactly for a number that is not built, and BAD_CALLER exactly for a built one and a caller that is no EC number
pub record DispatchRefusedExactly : Type 0 where
  pub bad_hyp : (s : State) (c : Call) → sound_state s ≡ true → Answers s c (Err BadHyp) ↔ (member c.number built_numbers ≡ false)
  pub bad_caller : (s : State) (c : Call) → sound_state s ≡ true → Answers s c (Err BadCaller) ↔
      ((member c.number built_numbers ≡ true) and_then (NamesEc s c.caller → ⊥))

-- a place holds a capability for an object of a kind with the permission of a bit's number: it is live, names a record of that kind, and its permissions have that bit
pub record Holds (s : State) (place kind bit : ℕ) : Type 0 where
  pub is_live : 0 < (s.caps place).permissions
  pub is_record : object_in s place < records
  pub of_kind : kind_of s (object_in s place) ≡ kind
  pub has_bit : bits bit bit (s.caps place).permissions ≡ 1

-- the place that a call's first selector names: that of CALL's portal, and of SM_CTRL's semaphore
abbrev pub named_place : State → Call → ℕ
named_place s c = object_place (caller_domain s c) c.first

-- CALL.

-- both message blocks have 64 words
pub record WholeBlocks (c : Call) : Type 0 where
  pub source_whole : length c.source ≡ block_words
  pub target_whole : length c.target ≡ block_words

-- the EC that the portal names: the callee
abbrev pub callee_of : State → Call → ℕ
callee_of s c = s.objects (object_in s (named_place s c)) ec_word

-- the caller holds a portal with the call bit there
abbrev pub Callable : State → Call → Type 0
Callable s c = Holds s (named_place s c) PT call_bit

-- the CPU words of the callee and the caller are equal
abbrev pub SameCpu : State → Call → Type 0
SameCpu s c = s.objects (callee_of s c) cpu_word ≡ s.objects c.caller cpu_word

-- u + 2t of the caller's block
abbrev pub payload_asked : Call → ℕ
payload_asked c = untyped_count (word c.source 0) + item_words * typed_count (word c.source 0)

-- CALL is granted exactly under its five checks: BAD_PAR is a block of another length or, behind the four other checks, a message that does not fit; BAD_CAP is no portal with the
-- call bit; COM_TIM is a callee that is the caller; BAD_CPU is a callee on another CPU; and there is no other status
pub record CallRefusedExactly : Type 0 where
  pub call_bad_par : Every CALL (λ s c. Answers s c (Err BadPar) ↔
      ((WholeBlocks c → ⊥) ⊎
      (WholeBlocks c and_then Callable s c and_then (callee_of s c ≡ c.caller → ⊥) and_then SameCpu s c and_then (payload_words < payload_asked c))))
  pub call_bad_cap : Every CALL (λ s c. Answers s c (Err BadCap) ↔ (WholeBlocks c and_then (Callable s c → ⊥)))
  pub call_com_tim : Every CALL (λ s c. Answers s c (Err ComTim) ↔ (WholeBlocks c and_then Callable s c and_then (callee_of s c ≡ c.caller)))
  pub call_bad_cpu : Every CALL (λ s c. Answers s c (Err BadCpu) ↔
      (WholeBlocks c and_then Callable s c and_then (callee_of s c ≡ c.caller → ⊥) and_then (SameCpu s c → ⊥)))
  pub call_granted : Every CALL (λ s c. ((answer : ℕ) × Answers s c (Ok answer)) ↔
      (WholeBlocks c and_then Callable s c and_then (callee_of s c ≡ c.caller → ⊥) and_then SameCpu s c and_then (payload_asked c ≤ payload_words)))
  pub call_no_other : Every CALL (StatusAmong (0 ∷ 1 ∷ 4 ∷ 5 ∷ 7 ∷ []))

-- The creations.

-- what every creation asks for: the place of the new selector is null, and that of the PD selector holds a PD with the create bit of the kind
pub record MayCreate (s : State) (c : Call) (kind : ℕ) : Type 0 where
  pub new_null : (s.caps (new_place s c)).permissions ≡ 0
  pub by_pd : Holds s (pd_place s c) PD (create_bit kind)

-- what the creation of an SC or a PT asks for besides: the place of the EC selector holds an EC with the bind bit
pub record MayBind (s : State) (c : Call) (kind bit : ℕ) : Type 0 where
  pub may_create : MayCreate s c kind
  pub by_ec : Holds s (ec_place s c) EC bit

-- no record is free
abbrev pub NoRecordFree : State → Type 0
NoRecordFree s = (number : ℕ) → number < records → kind_of s number ≡ free → ⊥

-- the domains 1 to 7 all have a PD
abbrev pub NoDomainLeft : State → Type 0
NoDomainLeft s = (domain : ℕ) → 0 < domain → domain < domains → has_pd s domain ≡ true

-- an initial descriptor is malformed, or neither null nor of objects
abbrev pub BadInitial : Call → Type 0
BadInitial c = (reading c.third ≡ Malformed) ⊎ ((range : Range) × (reading c.third ≡ Good range) × (range.space ≡ object → ⊥))

-- CREATE_PD: BAD_CAP without the capabilities; BAD_PAR for a bad initial descriptor; NO_ROOM where no domain is left or no record is free
pub record CreatePdRefusedExactly : Type 0 where
  pub pd_bad_cap : Every CREATE_PD (λ s c. Answers s c (Err BadCap) ↔ (MayCreate s c PD → ⊥))
  pub pd_bad_par : Every CREATE_PD (λ s c. Answers s c (Err BadPar) ↔ (MayCreate s c PD and_then BadInitial c))
  pub pd_no_room : Every CREATE_PD (λ s c. Answers s c (Err NoRoom) ↔ (MayCreate s c PD and_then (BadInitial c → ⊥) and_then (NoDomainLeft s ⊎ NoRecordFree s)))
  pub pd_granted : Every CREATE_PD (λ s c. Answers s c (Ok 0) ↔ (MayCreate s c PD and_then (BadInitial c → ⊥) and_then (NoDomainLeft s ⊎ NoRecordFree s → ⊥)))
  pub pd_no_other : Every CREATE_PD (StatusAmong (0 ∷ 4 ∷ 5 ∷ 16 ∷ []))

-- CREATE_EC: BAD_CAP without the capabilities; BAD_CPU for a CPU above 3; NO_ROOM where no record is free
pub record CreateEcRefusedExactly : Type 0 where
  pub ec_bad_cap : Every CREATE_EC (λ s c. Answers s c (Err BadCap) ↔ (MayCreate s c EC → ⊥))
  pub ec_bad_cpu : Every CREATE_EC (λ s c. Answers s c (Err BadCpu) ↔ (MayCreate s c EC and_then (3 < c.third)))
  pub ec_no_room : Every CREATE_EC (λ s c. Answers s c (Err NoRoom) ↔ (MayCreate s c EC and_then (c.third ≤ 3) and_then NoRecordFree s))
  pub ec_granted : Every CREATE_EC (λ s c. Answers s c (Ok 0) ↔ (MayCreate s c EC and_then (c.third ≤ 3) and_then (NoRecordFree s → ⊥)))
  pub ec_no_other : Every CREATE_EC (StatusAmong (0 ∷ 4 ∷ 7 ∷ 16 ∷ []))

-- the QPD of CREATE_SC has priority 0 or quantum 0
abbrev pub BadQpd : Call → Type 0
BadQpd c = (bits 0 7 c.fourth ≡ 0) ⊎ (bits 12 31 c.fourth ≡ 0)

-- CREATE_SC: BAD_CAP without the capabilities, that with the EC's bind bit for SCs among them; BAD_PAR for priority or quantum 0; NO_ROOM where no record is free
pub record CreateScRefusedExactly : Type 0 where
  pub sc_bad_cap : Every CREATE_SC (λ s c. Answers s c (Err BadCap) ↔ (MayBind s c SC bind_sc_bit → ⊥))
  pub sc_bad_par : Every CREATE_SC (λ s c. Answers s c (Err BadPar) ↔ (MayBind s c SC bind_sc_bit and_then BadQpd c))
  pub sc_no_room : Every CREATE_SC (λ s c. Answers s c (Err NoRoom) ↔ (MayBind s c SC bind_sc_bit and_then (BadQpd c → ⊥) and_then NoRecordFree s))
  pub sc_granted : Every CREATE_SC (λ s c. Answers s c (Ok 0) ↔ (MayBind s c SC bind_sc_bit and_then (BadQpd c → ⊥) and_then (NoRecordFree s → ⊥)))
  pub sc_no_other : Every CREATE_SC (StatusAmong (0 ∷ 4 ∷ 5 ∷ 16 ∷ []))

-- CREATE_PT: BAD_CAP without the capabilities, that with the EC's bind bit for PTs among them; NO_ROOM where no record is free
pub record CreatePtRefusedExactly : Type 0 where
  pub pt_bad_cap : Every CREATE_PT (λ s c. Answers s c (Err BadCap) ↔ (MayBind s c PT bind_pt_bit → ⊥))
  pub pt_no_room : Every CREATE_PT (λ s c. Answers s c (Err NoRoom) ↔ (MayBind s c PT bind_pt_bit and_then NoRecordFree s))
  pub pt_granted : Every CREATE_PT (λ s c. Answers s c (Ok 0) ↔ (MayBind s c PT bind_pt_bit and_then (NoRecordFree s → ⊥)))
  pub pt_no_other : Every CREATE_PT (StatusAmong (0 ∷ 4 ∷ 16 ∷ []))

-- CREATE_SM: BAD_CAP without the capabilities; NO_ROOM where no record is free
pub record CreateSmRefusedExactly : Type 0 where
  pub sm_bad_cap : Every CREATE_SM (λ s c. Answers s c (Err BadCap) ↔ (MayCreate s c SM → ⊥))
  pub sm_no_room : Every CREATE_SM (λ s c. Answers s c (Err NoRoom) ↔ (MayCreate s c SM and_then NoRecordFree s))
  pub sm_granted : Every CREATE_SM (λ s c. Answers s c (Ok 0) ↔ (MayCreate s c SM and_then (NoRecordFree s → ⊥)))
  pub sm_no_other : Every CREATE_SM (StatusAmong (0 ∷ 4 ∷ 16 ∷ []))

-- each refusal of a creation has exactly its cause, and it is granted exactly where none applies
pub record CreationsRefusedExactly : Type 0 where
  pub create_pd_lem : CreatePdRefusedExactly
  pub create_ec_lem : CreateEcRefusedExactly
  pub create_sc_lem : CreateScRefusedExactly
  pub create_pt_lem : CreatePtRefusedExactly
  pub create_sm_lem : CreateSmRefusedExactly

-- SM_CTRL.

-- the count of the semaphore
abbrev pub semaphore_count : State → Call → ℕ
semaphore_count s c = s.objects (object_in s (named_place s c)) count_word

-- after a call the semaphore's count is some number, and no other word of a record and no place has changed
pub record CountBecomes (s : State) (c : Call) (value : ℕ) : Type 0 where
  pub count_stored : (after s c).objects (object_in s (named_place s c)) count_word ≡ value
  pub other_words_stay : (number index : ℕ) → ((number ≡ object_in s (named_place s c)) × (index ≡ count_word) → ⊥) → (after s c).objects number index ≡ s.objects number index
  pub places_stay : (after s c).caps ≡ s.caps

-- SM_CTRL: an operation above 1 is BAD_PAR; up and down without the semaphore's bit for them are BAD_CAP; up at the greatest word is BAD_PAR, and down at 0 is COM_TIM; otherwise the
-- count is one more or one less
pub record SmCtrlRefusedExactly : Type 0 where
  pub other_bad_par : Every SM_CTRL (λ s c. 1 < c.second → Answers s c (Err BadPar))
  pub up_bad_cap : Every SM_CTRL (λ s c. c.second ≡ 0 → Answers s c (Err BadCap) ↔ (Holds s (named_place s c) SM 0 → ⊥))
  pub up_bad_par : Every SM_CTRL (λ s c. c.second ≡ 0 → Answers s c (Err BadPar) ↔ (Holds s (named_place s c) SM 0 and_then (greatest_word ≤ semaphore_count s c)))
  pub up_granted : Every SM_CTRL (λ s c. c.second ≡ 0 → Answers s c (Ok 0) ↔ (Holds s (named_place s c) SM 0 and_then (semaphore_count s c < greatest_word)))
  pub up_counts : Every SM_CTRL (λ s c. c.second ≡ 0 → Answers s c (Ok 0) → CountBecomes s c (semaphore_count s c + 1))
  pub up_no_other : Every SM_CTRL (λ s c. c.second ≡ 0 → StatusAmong (0 ∷ 4 ∷ 5 ∷ []) s c)
  pub down_bad_cap : Every SM_CTRL (λ s c. c.second ≡ 1 → Answers s c (Err BadCap) ↔ (Holds s (named_place s c) SM 1 → ⊥))
  pub down_com_tim : Every SM_CTRL (λ s c. c.second ≡ 1 → Answers s c (Err ComTim) ↔ (Holds s (named_place s c) SM 1 and_then (semaphore_count s c ≡ 0)))
  pub down_granted : Every SM_CTRL (λ s c. c.second ≡ 1 → Answers s c (Ok 0) ↔ (Holds s (named_place s c) SM 1 and_then (0 < semaphore_count s c)))
  pub down_counts : Every SM_CTRL (λ s c. c.second ≡ 1 → Answers s c (Ok 0) → CountBecomes s c (semaphore_count s c - 1))
  pub down_no_other : Every SM_CTRL (λ s c. c.second ≡ 1 → StatusAmong (0 ∷ 1 ∷ 4 ∷ []) s c)

-- LOOKUP and REVOKE.

-- LOOKUP: BAD_PAR exactly for a malformed descriptor; otherwise it is granted, takes no step and leaves the block
pub record LookupRefusedExactly : Type 0 where
  pub lookup_bad_par : Every LOOKUP (λ s c. Answers s c (Err BadPar) ↔ (reading c.first ≡ Malformed))
  pub lookup_granted : Every LOOKUP (λ s c. ((answer : ℕ) × (rules s c ≡ grant answer [])) ↔ (reading c.first ≡ Malformed → ⊥))
  pub lookup_no_other : Every LOOKUP (StatusAmong (0 ∷ 5 ∷ []))

-- a word's mask has no bit among the greatest permissions of its type's space: of memory's 7, so it is a multiple of 8; of I/O's 1, so it is even; of objects' 31, whatever their kinds,
-- so it is 0
abbrev pub MaskOutside : ℕ → Type 0
MaskOutside word =
    ((type_field word ≡ 1) × (mask_field word % 8 ≡ 0)) ⊎ (((type_field word ≡ 2) × (mask_field word % 2 ≡ 0)) ⊎ ((type_field word ≡ 3) × (mask_field word ≡ 0)))

-- REVOKE: BAD_PAR exactly for a self word above 1, a malformed descriptor, or a mask without a permission of its space; otherwise it is granted, answers 0 and leaves the block
pub record RevokeRefusedExactly : Type 0 where
  pub revoke_bad_par : Every REVOKE (λ s c. Answers s c (Err BadPar) ↔
      ((1 < c.second) ⊎ ((c.second ≤ 1) and_then ((reading c.first ≡ Malformed) ⊎ ((reading c.first ≡ Malformed → ⊥) and_then MaskOutside c.first)))))
  pub revoke_granted : Every REVOKE (λ s c. ((effects : List Effect) × (rules s c ≡ grant 0 effects)) ↔
      ((c.second ≤ 1) and_then (reading c.first ≡ Malformed → ⊥) and_then (MaskOutside c.first → ⊥)))
  pub revoke_no_other : Every REVOKE (StatusAmong (0 ∷ 5 ∷ []))

-- The census.

-- what holds of every census of sound tables, by its reply, the place's permissions and the number of the place's descendants
abbrev pub EveryCensus : (ℕ → List ℕ → Reply → (permissions found : ℕ) → Type 0) → Type 0
EveryCensus Holding =
    (tables : Tables) (place : ℕ) (list : List ℕ) → sound tables ≡ true →
    Holding place list (census_of tables place list).reply ((shown tables).caps place).permissions (length (descendants (shown tables).caps place))

-- The census: BAD_PAR exactly for a place number of 3,072 or more; BAD_CAP exactly for a null place; SHORT with the needed count exactly for a live place and a shorter list;
-- otherwise SUCCESS with the count of descendants
pub record CensusRefusedExactly : Type 0 where
  pub census_bad_par : EveryCensus (λ place list reply permissions found. (reply ≡ Err BadPar) ↔ (places ≤ place))
  pub census_bad_cap : EveryCensus (λ place list reply permissions found. (reply ≡ Err BadCap) ↔ ((place < places) and_then (permissions ≡ 0)))
  pub census_short : EveryCensus (λ place list reply permissions found. (needed : ℕ) → (reply ≡ Err (Short needed)) ↔
      ((place < places) and_then (0 < permissions) and_then (length list < found) and_then (found ≡ needed)))
  pub census_success : EveryCensus (λ place list reply permissions found. (count : ℕ) → (reply ≡ Ok count) ↔
      ((place < places) and_then (0 < permissions) and_then (found ≤ length list) and_then (found ≡ count)))
  pub census_no_other : EveryCensus (λ place list reply permissions found. member (status_of reply) (0 ∷ 4 ∷ 5 ∷ 19 ∷ []) ≡ true)
