-- Domains, places, objects: what the two tables hold.
use Rattle.std.specs.Prelude.{ℕ, ◌+◌, ◌-◌, ◌*◌, ◌/◌, ◌%◌, Bool, ◌&&◌, List, [], ◌∷◌, eqb, ltb, length, if◌then◌else◌}
pub use Rattle.layout.specs.declared.Cap.{Cap}
use Rattle.words.specs.Sizes.{memory, io, object, selectors, place_of, places, place_words, records, record_words}
use Rattle.words.specs.Permissions.{permits}
use Rattle.interface.specs.Basics.{word, listed}

-- what a place holds (`Cap`): the resource's number (a page, a port or an object), the permissions, the parent place plus 1 (0: none), and the depth

-- a place is live where it has permissions, and null otherwise
abbrev pub live : Cap → Bool
live cap = ltb 0 cap.permissions

-- the four words of a null place are 0
abbrev pub nothing : Cap
nothing = record { resource = 0; permissions = 0; parent = 0; depth = 0 }

-- a capability that has no parent
abbrev pub parentless : ℕ → ℕ → Cap
parentless resource permissions = record { resource = resource; permissions = permissions; parent = 0; depth = 0 }

-- the kinds of objects: protection domain, execution context, scheduling context, portal, semaphore. Kind 0 is a free record's
abbrev pub free : ℕ
free = 0

abbrev pub PD : ℕ
PD = 1

abbrev pub EC : ℕ
EC = 2

abbrev pub SC : ℕ
SC = 3

abbrev pub PT : ℕ
PT = 4

abbrev pub SM : ℕ
SM = 5

-- the words of a record: the kind; then a PD's domain; an EC's domain, CPU and event base; an SC's EC, priority and quantum; a PT's EC, MTD, entry IP and
-- identifier; an SM's count
abbrev pub kind_word : ℕ
kind_word = 0

abbrev pub domain_word : ℕ
domain_word = 1

abbrev pub cpu_word : ℕ
cpu_word = 2

abbrev pub event_base_word : ℕ
event_base_word = 3

abbrev pub ec_word : ℕ
ec_word = 1

abbrev pub priority_word : ℕ
priority_word = 2

abbrev pub quantum_word : ℕ
quantum_word = 3

abbrev pub mtd_word : ℕ
mtd_word = 2

abbrev pub entry_word : ℕ
entry_word = 3

abbrev pub identifier_word : ℕ
identifier_word = 4

abbrev pub count_word : ℕ
count_word = 1

-- how many words after the kind a record of a kind names; the others are 0
abbrev pub named_words : ℕ → ℕ
named_words kind = word (0 ∷ 1 ∷ 3 ∷ 3 ∷ 4 ∷ 1 ∷ []) kind

-- the greatest permissions of an object of a kind: PD 31 (create PD, EC, SC, PT, SM from bit 0 on), EC 7 (control, bind SC, bind PT), SC 1, PT 3 (control, call), SM 3
-- (up, down)
abbrev pub greatest_of : ℕ → ℕ
greatest_of kind = word (0 ∷ 31 ∷ 7 ∷ 1 ∷ 3 ∷ 3 ∷ []) kind

-- the greatest permissions for what a space holds: a page 7 (read, write, execute from bit 0 on), a port 1, an object those of its kind
abbrev pub greatest : ℕ → ℕ → ℕ
greatest space kind = if eqb space memory then 7 else if eqb space io then 1 else greatest_of kind

-- the greatest permissions of a space, those that some capability there can have: memory 7, I/O 1, objects 31, a PD's
abbrev pub greatest_in : ℕ → ℕ
greatest_in space = greatest space PD

-- the permissions of objects by the numbers of their bits: to create an object of a kind, to bind an SC or a PT to an EC, to call a portal
abbrev pub create_bit : ℕ → ℕ
create_bit kind = kind - 1

abbrev pub bind_sc_bit : ℕ
bind_sc_bit = 1

abbrev pub bind_pt_bit : ℕ
bind_pt_bit = 2

abbrev pub call_bit : ℕ
call_bit = 1

-- what the tables show: a capability for each place, and for each record its words
pub record State : Type 0 where
  pub caps : ℕ → Cap
  pub objects : ℕ → ℕ → ℕ

-- the kind of a record
abbrev pub kind_of : State → ℕ → ℕ
kind_of state number = state.objects number kind_word

-- the place of an object selector in a domain; object selectors wrap
abbrev pub object_place : ℕ → ℕ → ℕ
object_place domain selector = place_of domain object (selector % selectors object)

-- the object that the capability at a place names
abbrev pub object_in : State → ℕ → ℕ
object_in state place = (state.caps place).resource

-- whether a place holds a capability for an object of a kind, with the permission of a bit's number; a null place holds none
abbrev pub permitted : State → ℕ → ℕ → ℕ → Bool
permitted state place kind bit = permits bit (state.caps place).permissions && eqb (kind_of state (object_in state place)) kind

-- the two tables: lists of words
pub record Tables : Type 0 where
  pub places : List ℕ
  pub objects : List ℕ

-- the words of the place table are those of the places in turn, the words of the object table those of the records in turn
abbrev pub place_table_words : ℕ
place_table_words = place_words * places

abbrev pub object_table_words : ℕ
object_table_words = record_words * records

-- whether both tables have their lengths
unfoldable pub sized : Tables → Bool
sized tables = eqb (length tables.places) place_table_words && eqb (length tables.objects) object_table_words

-- what a table's four words at a place show
unfoldable pub cap_at : List ℕ → ℕ → Cap
cap_at table place =
    record {
      resource = word table (place_words * place);
      permissions = word table (place_words * place + 1);
      parent = word table (place_words * place + 2);
      depth = word table (place_words * place + 3);
    }

-- a word of a record in a table
unfoldable pub object_at : List ℕ → ℕ → ℕ → ℕ
object_at table number index = if ltb index record_words then word table (record_words * number + index) else 0

-- what two tables show
abbrev pub shown : Tables → State
shown tables = record { caps = cap_at tables.places; objects = object_at tables.objects }

-- two lists as tables, and what they show
abbrev pub tables : List ℕ → List ℕ → Tables
tables places objects = record { places = places; objects = objects }

abbrev pub view : List ℕ → List ℕ → State
view places objects = shown (tables places objects)

-- what a place table alone shows: its places, with records that are all 0
abbrev pub places_in : List ℕ → State
places_in table = record { caps = cap_at table; objects = λ number index. 0 }

-- the four words of a capability
abbrev pub cap_words : Cap → List ℕ
cap_words cap = cap.resource ∷ cap.permissions ∷ cap.parent ∷ cap.depth ∷ []

-- the place table that shows some capabilities, and the object table that shows some records
abbrev pub cap_table : (ℕ → Cap) → List ℕ
cap_table caps = listed place_table_words (λ i. word (cap_words (caps (i / place_words))) (i % place_words))

abbrev pub record_table : (ℕ → ℕ → ℕ) → List ℕ
record_table objects = listed object_table_words (λ i. objects (i / record_words) (i % record_words))

-- the tables that show a state
abbrev pub place_table : State → List ℕ
place_table state = cap_table state.caps

abbrev pub object_table : State → List ℕ
object_table state = record_table state.objects

abbrev pub tables_of : State → Tables
tables_of state = record { places = place_table state; objects = object_table state }
