-- What the functions of the rule that the creations share promise: what the checks come to, delegations from one table to another, and that the rule is run.
use Rattle.std.specs.Prelude.{Result, Ok, Err, ℕ, ◌<◌, ◌≡◌, true, List, [], ◌∷◌, ◌++◌}
use Rattle.reply.specs.declared.Refusal.{Refusal}
use Rattle.words.specs.Sizes.{domains, object, records}
use Rattle.layout.specs.declared.ObjectNumber.{ObjectNumber}
use Rattle.descriptor.specs.declared.Reading.{Reading}
use Rattle.descriptor.specs.declared.Reading.TheVariants.{Null, Malformed, Good}
use Rattle.reply.specs.Replies.{Reply}
use Rattle.descriptor.specs.Descriptors.{Proper}
use Rattle.interface.specs.Basics.{word}
use Rattle.interface.specs.Places.{State, Tables, object_place, cap_at, shown}
use Rattle.interface.specs.Effects.{Effect, make, hold, run}
use Rattle.interface.specs.Verdicts.{Call, Verdict, refuse, grant, caller_domain}
use Rattle.interface.specs.Creations.{creation, initial_gives}
use Rattle.interface.specs.Creations.{Creation as Rule}
use Rattle.interface.specs.Rules.{Runs}
use Rattle.objects.specs.Records.{words_of}
use Rattle.creation_rule.specs.declared.Creation.{Creation}

-- what a creation delegates, from the caller's domain to the one that its object's words name
abbrev pub gives : ℕ → Creation → List Effect
gives domain new = initial_gives domain new.object.1 new.initial

-- what a creation's rule has of its own, with the words of its object
abbrev pub rule_of : ℕ → Creation → List ℕ → Rule
rule_of domain new words =
    record {
      kind = new.object.0;
      bindable = new.bindable;
      cpu_good = new.cpu_good;
      parameters_good = new.parameters_good;
      domain_left = new.domain_left;
      words = words;
      delegations = gives domain new;
    }

-- a call of a domain, with a selector of the new object and one of the PD
pub record Asks (s : State) (domain selector pd : ℕ) (c : Call) : Type 0 where
  pub in_domain : caller_domain s c ≡ domain
  pub is_first : c.first ≡ selector
  pub is_second : c.second ≡ pd

-- a creation whose rule says something of each such call, whatever list the object's words are
pub record Says (s : State) (domain selector pd : ℕ) (new : Creation) (verdict : List ℕ → Verdict) : Type 0 where
  pub says : (c : Call) (words : List ℕ) → Asks s domain selector pd c → creation s c (rule_of domain new words) ≡ verdict words

-- what the checks of a creation come to: a record for the object where it passes them, and otherwise the refusal of its rule
pub data Decides (s : State) (domain selector pd : ℕ) (new : Creation) : Result ObjectNumber Refusal → Type 0 where
  passed : (number : ObjectNumber) → number.0 < records → new.parameters_good ≡ true → new.domain_left ≡ true →
      Says s domain selector pd new
      (λ words. grant 0 (make number.0 words ∷ gives domain new ++ (hold (object_place domain selector) number.0 ∷ []))) →
      Decides s domain selector pd new (Ok number)
  failed : (refusal : Refusal) → Says s domain selector pd new (λ words. refuse refusal) → Decides s domain selector pd new (Err refusal)

-- delegations that turn one place table into another, whatever the records
pub record Hands (delegations : List Effect) (before after : List ℕ) : Type 0 where
  pub turns : (objects : ℕ → ℕ → ℕ) →
      run delegations (record { caps = cap_at before; objects = objects }) ≡ record { caps = cap_at after; objects = objects }

-- an initial descriptor that can be handed on to a domain: its range, if it is one, is a proper one of objects, and the domain exists
abbrev pub Handed : ℕ → Reading → Type 0
Handed to Null = Unit {0}
Handed to Malformed = Unit {0}
Handed to (Good range) = Proper range × (range.space ≡ object) × (to < domains)

-- a creation that runs its rule, by any list of words that are those of its object
pub record Creates (domain selector pd : ℕ) (new : Creation) (before after : Tables) (reply : Reply) : Type 0 where
  pub runs : (c : Call) (words : List ℕ) → Asks (shown before) domain selector pd c → word (words_of new.object) ≡ word words →
      Runs (λ s call. creation s call (rule_of domain new words)) c before after reply
