-- The five creations.
use Rattle.std.specs.Prelude.{ℕ, ◌+◌, ◌%◌, ◌^◌, Bool, true, false, not, ◌&&◌, List, [], ◌∷◌, ◌++◌, eqb, ltb}
use Rattle.words.specs.Fields.{bits}
use Rattle.words.specs.Sizes.{domains, object, selectors, place_of, records}
use Rattle.descriptor.specs.declared.Reading.{Reading}
use Rattle.descriptor.specs.declared.Reading.TheVariants.{Null, Malformed, Good}
use Rattle.reply.specs.declared.Refusal.TheVariants.{BadCap, BadCpu, BadPar, NoRoom}
use Rattle.interface.specs.Basics.{listed, lowest}
use Rattle.interface.specs.Places.{State, live, free, PD, EC, SC, PT, SM, domain_word, kind_of, create_bit, bind_sc_bit, bind_pt_bit, object_place, object_in, permitted}
use Rattle.interface.specs.Boot.{cpus}
use Rattle.interface.specs.Damage.{pds_below}
use Rattle.interface.specs.RangeDescriptors.{reading}
use Rattle.interface.specs.Effects.{Effect, give, make, hold}
use Rattle.interface.specs.Verdicts.{Call, caller_domain, Verdict, grant, require◌else◌then◌}

-- the places of a creation's selectors: the new object's, the PD's and, for an SC or a PT, the EC's
abbrev pub new_place : State → Call → ℕ
new_place s c = object_place (caller_domain s c) c.first

abbrev pub pd_place : State → Call → ℕ
pd_place s c = object_place (caller_domain s c) c.second

abbrev pub ec_place : State → Call → ℕ
ec_place s c = object_place (caller_domain s c) c.third

-- the lowest free record, or the number of records where none is free
unfoldable pub free_record : State → ℕ
free_record s = lowest records (λ r. eqb (kind_of s r) free)

-- the domain that a new PD takes: the next
abbrev pub next_domain : State → ℕ
next_domain s = pds_below s records + 1

-- what one creation has of its own: the kind, its checks beside those that all have, the new object's words, and what it delegates first
pub record Creation : Type 0 where
  pub kind : ℕ
  pub bindable : Bool
  pub cpu_good : Bool
  pub parameters_good : Bool
  pub domain_left : Bool
  pub words : List ℕ
  pub delegations : List Effect

-- the rule of every creation: the new place is null, the PD capability has the kind's create bit, and the EC capability, if one is named, has the bind bit; then the CPU,
-- then the parameters, then room. The object takes the lowest free record; then come the creation's delegations; then the new place gets greatest permissions and no parent
unfoldable pub creation : State → Call → Creation → Verdict
creation s c new =
    require not (live (s.caps (new_place s c))) else BadCap then
    require permitted s (pd_place s c) PD (create_bit new.kind) else BadCap then
    require new.bindable else BadCap then
    require new.cpu_good else BadCpu then
    require new.parameters_good else BadPar then
    require ltb (free_record s) records && new.domain_left else NoRoom then
    grant 0 (make (free_record s) new.words ∷ new.delegations ++ (hold (new_place s c) (free_record s) ∷ []))

-- delegating each place of a range of object selectors to the same selectors of another domain
abbrev pub hand_on : ℕ → ℕ → ℕ → ℕ → ℕ → List Effect
hand_on from to base size mask = listed size (λ i. give (place_of to object (base + i)) (place_of from object (base + i)) mask)

-- an initial descriptor is null or of objects
abbrev pub initial_good : Reading → Bool
initial_good Null = true
initial_good Malformed = false
initial_good (Good range) = eqb range.space object

-- the initial range is delegated with its mask from the caller's domain to the new one
abbrev pub initial_gives : ℕ → ℕ → Reading → List Effect
initial_gives from to Null = []
initial_gives from to Malformed = []
initial_gives from to (Good range) = hand_on from to range.base (2 ^ range.order) range.mask

-- CREATE_PD: new selector, PD selector, initial descriptor. The new PD takes the next domain, and the initial range is delegated before the new place is filled
unfoldable pub create_pd : State → Call → Verdict
create_pd s c =
    creation s c
    (record {
      kind = PD;
      bindable = true;
      cpu_good = true;
      parameters_good = initial_good (reading c.third);
      domain_left = ltb (next_domain s) domains;
      words = PD ∷ next_domain s ∷ [];
      delegations = initial_gives (caller_domain s c) (next_domain s) (reading c.third);
    })

-- CREATE_EC: new selector, PD selector, CPU, event base. The EC joins the named PD's domain, and its event base wraps
unfoldable pub create_ec : State → Call → Verdict
create_ec s c =
    creation s c
    (record {
      kind = EC;
      bindable = true;
      cpu_good = ltb c.third cpus;
      parameters_good = true;
      domain_left = true;
      words = EC ∷ s.objects (object_in s (pd_place s c)) domain_word ∷ c.third ∷ c.fourth % selectors object ∷ [];
      delegations = [];
    })

-- the fields of a QPD: the priority and the quantum
abbrev pub priority : ℕ → ℕ
priority qpd = bits 0 7 qpd

abbrev pub quantum : ℕ → ℕ
quantum qpd = bits 12 31 qpd

-- CREATE_SC: new selector, PD selector, EC selector, QPD
unfoldable pub create_sc : State → Call → Verdict
create_sc s c =
    creation s c
    (record {
      kind = SC;
      bindable = permitted s (ec_place s c) EC bind_sc_bit;
      cpu_good = true;
      parameters_good = not (eqb (priority c.fourth) 0) && not (eqb (quantum c.fourth) 0);
      domain_left = true;
      words = SC ∷ object_in s (ec_place s c) ∷ priority c.fourth ∷ quantum c.fourth ∷ [];
      delegations = [];
    })

-- CREATE_PT: new selector, PD selector, EC selector, MTD, entry IP, identifier
unfoldable pub create_pt : State → Call → Verdict
create_pt s c =
    creation s c
    (record {
      kind = PT;
      bindable = permitted s (ec_place s c) EC bind_pt_bit;
      cpu_good = true;
      parameters_good = true;
      domain_left = true;
      words = PT ∷ object_in s (ec_place s c) ∷ c.fourth ∷ c.fifth ∷ c.sixth ∷ [];
      delegations = [];
    })

-- CREATE_SM: new selector, PD selector, count
unfoldable pub create_sm : State → Call → Verdict
create_sm s c =
    creation s c
    (record {
      kind = SM;
      bindable = true;
      cpu_good = true;
      parameters_good = true;
      domain_left = true;
      words = SM ∷ c.third ∷ [];
      delegations = [];
    })
