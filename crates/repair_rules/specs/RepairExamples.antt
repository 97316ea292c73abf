-- The manual's examples of repair (17.8): what becomes of the places of boot's state, changed as each says.
use Rattle.std.specs.Prelude.{ℕ, ◌+◌, ◌-◌, ◌≡◌, ◌&&◌, List, [], ◌∷◌, leb, eqb, if◌then◌else◌}
use Rattle.interface.specs.Basics.{word, put}
use Rattle.interface.specs.Places.{Cap, State, nothing}
use Rattle.interface.specs.Boot.{boot}
use Rattle.repair_rules.specs.Repair.{repaired_cap}

-- four words of a place
abbrev pub cap : ℕ → ℕ → ℕ → ℕ → Cap
cap resource permissions parent depth = record { resource = resource; permissions = permissions; parent = parent; depth = depth }

-- boot's state with other words at a place, at two, and at three
abbrev pub with1 : ℕ → Cap → State
with1 p a = record { caps = put boot.caps p a; objects = boot.objects }

abbrev pub with2 : ℕ → Cap → ℕ → Cap → State
with2 p a q b = record { caps = put (put boot.caps p a) q b; objects = boot.objects }

abbrev pub with3 : ℕ → Cap → ℕ → Cap → ℕ → Cap → State
with3 p a q b r c = record { caps = put (put (put boot.caps p a) q b) r c; objects = boot.objects }

-- page 0 lent on from place to place, from 384 to 447, each one deeper
abbrev pub line : State
line = record { caps = λ p. if leb 384 p && leb p 447 then cap 0 7 (if eqb p 384 then 1 else p) (p - 383) else boot.caps p; objects = boot.objects }

-- boot's state with a record of kind 6, and a place that names it
abbrev pub strange : State
strange = record { caps = put boot.caps 600 (cap 31 1 0 0); objects = put boot.objects 31 (word (6 ∷ [])) }

pub record RepairExamples : Type 0 where
  pub left_over : repaired_cap (with1 392 (cap 5 0 0 0)) 392 ≡ nothing
  pub no_origin : repaired_cap (with1 392 (cap 0 7 0 0)) 392 ≡ nothing
  pub no_domain : repaired_cap (with1 1152 (cap 0 1 1 1)) 1152 ≡ nothing
  pub root_pages : repaired_cap (with1 392 (cap 0 7 0 0)) 447 ≡ boot.caps 447
  pub more_first : repaired_cap (with3 384 (cap 0 3 1 1) 385 (cap 0 7 385 2) 386 (cap 0 1 386 3)) 384 ≡ cap 0 3 1 1
  pub more_than_parent : repaired_cap (with3 384 (cap 0 3 1 1) 385 (cap 0 7 385 2) 386 (cap 0 1 386 3)) 385 ≡ nothing
  pub below_it : repaired_cap (with3 384 (cap 0 3 1 1) 385 (cap 0 7 385 2) 386 (cap 0 1 386 3)) 386 ≡ nothing
  pub two_parents : repaired_cap (with2 384 (cap 0 7 386 1) 385 (cap 0 7 385 2)) 384 ≡ nothing
  pub each_others : repaired_cap (with2 384 (cap 0 7 386 1) 385 (cap 0 7 385 2)) 385 ≡ nothing
  pub own_parent : repaired_cap (with1 384 (cap 0 7 385 1)) 384 ≡ nothing
  pub deep : repaired_cap line 446 ≡ cap 0 7 446 63
  pub too_deep : repaired_cap line 447 ≡ nothing
  pub broken_there : repaired_cap (with2 5 (cap 5 7 0 1) 389 (cap 5 7 6 2)) 5 ≡ cap 5 7 0 1
  pub from_broken : repaired_cap (with2 5 (cap 5 7 0 1) 389 (cap 5 7 6 2)) 389 ≡ nothing
  pub less_there : repaired_cap (with2 5 (cap 5 3 0 0) 389 (cap 5 3 6 1)) 389 ≡ cap 5 3 6 1
  pub through_there : repaired_cap (with3 5 (cap 5 7 385 1) 384 (cap 5 7 0 0) 389 (cap 5 7 6 2)) 389 ≡ nothing
  pub still_there : repaired_cap (with3 5 (cap 5 7 385 1) 384 (cap 5 7 0 0) 389 (cap 5 7 6 2)) 5 ≡ cap 5 7 385 1
  pub left_over_there : repaired_cap (with1 200 (cap 9 0 0 0)) 200 ≡ nothing
  pub no_kind : repaired_cap strange 600 ≡ nothing
