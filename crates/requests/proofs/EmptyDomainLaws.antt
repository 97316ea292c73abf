-- What a CREATE_PD with the null descriptor comes to.
use Prim.Native.Nat.{ℕ}
use mathlib.Core.Path.{◌≡◌}
use mathlib.Core.List.{List}
use Rattle.reply.specs.Replies.{Reply}
use Rattle.descriptor.specs.Descriptors.{null}
use Rattle.interface.specs.Boot.{root_ec, exc}
use Rattle.interface.specs.Verdicts.{CREATE_PD}
use Rattle.requests.specs.Requests.{Asked, without_message}

module _ (places objects places_after objects_after : List ℕ) (reply : Reply) where
  -- a new domain that starts with nothing: its initial descriptor is the null one
  pub asked_empty : (selector initial : ℕ) → initial ≡ null → Asked places objects places_after objects_after reply (without_message CREATE_PD root_ec selector exc initial) →
      Asked places objects places_after objects_after reply (without_message CREATE_PD root_ec selector exc null)
  asked_empty selector initial is_null ran = rw is_null at ran
