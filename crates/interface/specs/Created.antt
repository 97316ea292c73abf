-- What a creation leaves: the record and the place of the new object, and that nothing else changes, except for places of a new PD's domain: what its initial range delivers there
-- stands with the deliveries.
use Rattle.std.specs.Prelude.{ℕ, ◌+◌, ◌%◌, ◌<◌, ◌≡◌, true, false, Ok}
use Rattle.words.specs.Fields.{bits}
use Rattle.words.specs.Sizes.{object, selectors, domain_of, records}
use Rattle.interface.specs.Places.{State, free, PD, EC, SC, PT, SM, kind_word, domain_word, cpu_word, event_base_word, ec_word, priority_word, quantum_word, mtd_word, entry_word, identifier_word, count_word, named_words, greatest_of, kind_of, object_in}
use Rattle.interface.specs.Damage.{pds_below, has_pd}
use Rattle.interface.specs.Verdicts.{Call, CREATE_PD, CREATE_EC, CREATE_SC, CREATE_PT, CREATE_SM}
use Rattle.interface.specs.Creations.{new_place, pd_place, ec_place}
use Rattle.interface.specs.Rules.{after}
use Rattle.interface.specs.Refusals.{Every, Answers}

-- what every creation leaves, for the record that its object is in: the record was free, and no lower one was; it has the kind, and 0 in each word that the kind does not name; every
-- other record stays; and the new place holds the record with the greatest permissions of the kind, no parent and depth 0
pub record Created (s : State) (c : Call) (kind number : ℕ) : Type 0 where
  pub is_record : number < records
  pub was_free : kind_of s number ≡ free
  pub none_lower : (lower : ℕ) → lower < number → kind_of s lower ≡ free → ⊥
  pub of_kind : (after s c).objects number kind_word ≡ kind
  pub others_zero : (index : ℕ) → named_words kind < index → (after s c).objects number index ≡ 0
  pub records_stay : (other : ℕ) → (other ≡ number → ⊥) → (after s c).objects other ≡ s.objects other
  pub place_holds : (after s c).caps (new_place s c) ≡ record { resource = number; permissions = greatest_of kind; parent = 0; depth = 0 }

-- every place but the new one stays
abbrev pub PlacesStay : State → Call → Type 0
PlacesStay s c = (place : ℕ) → (place ≡ new_place s c → ⊥) → (after s c).caps place ≡ s.caps place

-- a new PD has the domain one more than the number of PDs before; that had no PD, and has one then; and every place but the new one stays, unless it is of that domain
pub record PdCreated (s : State) (c : Call) (number : ℕ) : Type 0 where
  pub created : Created s c PD number
  pub domain_told : (after s c).objects number domain_word ≡ pds_below s records + 1
  pub had_no_pd : has_pd s (pds_below s records + 1) ≡ false
  pub has_pd_now : has_pd (after s c) (pds_below s records + 1) ≡ true
  pub places_stay : (place : ℕ) → (place ≡ new_place s c → ⊥) → (domain_of place ≡ pds_below s records + 1 → ⊥) → (after s c).caps place ≡ s.caps place

-- a new EC has the domain of the named PD, the CPU, and the event base modulo 256
pub record EcCreated (s : State) (c : Call) (number : ℕ) : Type 0 where
  pub created : Created s c EC number
  pub domain_told : (after s c).objects number domain_word ≡ s.objects (object_in s (pd_place s c)) domain_word
  pub cpu_told : (after s c).objects number cpu_word ≡ c.third
  pub event_base_told : (after s c).objects number event_base_word ≡ c.fourth % selectors object
  pub places_stay : PlacesStay s c

-- a new SC has the named EC's object number, and the QPD's priority, bits 0 to 7, and quantum, bits 12 to 31
pub record ScCreated (s : State) (c : Call) (number : ℕ) : Type 0 where
  pub created : Created s c SC number
  pub ec_told : (after s c).objects number ec_word ≡ object_in s (ec_place s c)
  pub priority_told : (after s c).objects number priority_word ≡ bits 0 7 c.fourth
  pub quantum_told : (after s c).objects number quantum_word ≡ bits 12 31 c.fourth
  pub places_stay : PlacesStay s c

-- a new PT has the named EC's object number, the MTD, the entry IP and the identifier
pub record PtCreated (s : State) (c : Call) (number : ℕ) : Type 0 where
  pub created : Created s c PT number
  pub ec_told : (after s c).objects number ec_word ≡ object_in s (ec_place s c)
  pub mtd_told : (after s c).objects number mtd_word ≡ c.fourth
  pub entry_told : (after s c).objects number entry_word ≡ c.fifth
  pub identifier_told : (after s c).objects number identifier_word ≡ c.sixth
  pub places_stay : PlacesStay s c

-- a new SM has the count
pub record SmCreated (s : State) (c : Call) (number : ℕ) : Type 0 where
  pub created : Created s c SM number
  pub count_told : (after s c).objects number count_word ≡ c.third
  pub places_stay : PlacesStay s c

-- a creation that succeeds leaves its object in some record
pub record CreatedExactly : Type 0 where
  pub pd_created : Every CREATE_PD (λ s c. Answers s c (Ok 0) → (number : ℕ) × PdCreated s c number)
  pub ec_created : Every CREATE_EC (λ s c. Answers s c (Ok 0) → (number : ℕ) × EcCreated s c number)
  pub sc_created : Every CREATE_SC (λ s c. Answers s c (Ok 0) → (number : ℕ) × ScCreated s c number)
  pub pt_created : Every CREATE_PT (λ s c. Answers s c (Ok 0) → (number : ℕ) × PtCreated s c number)
  pub sm_created : Every CREATE_SM (λ s c. Answers s c (Ok 0) → (number : ℕ) × SmCreated s c number)
