-- What each record and each place holds at boot: what the definition gives on each way out of the function that makes it.
use Rattle.std.specs.Prelude.{Option, Some, None, if◌then◌else◌}
use Prim.Native.Nat.{ℕ, ◌+◌, ◌-◌, ◌≤◌, ◌<◌}
use mathlib.Core.Path.{◌≡◌, ap, ◌∙◌}
use mathlib.Core.Bool.{Bool, true, false, ◌&&◌}
use mathlib.Core.List.{[], ◌∷◌}
use lib.Dec.{eqb, leb, ltb}
use borrow.Author.Tests.{lt-ltb, le-ltb, eq-eqb, ne_eqb, leb-true, ltb-true}
use native.Mathlib.Omega.{arith}
use Rattle.words.specs.Sizes.{memory, object, records, place_of, domain_of, space_of, selector_of}
use Rattle.layout.specs.declared.ObjectNumber.{ObjectNumber}
use Rattle.layout.specs.Numbers.{link_of, numbered}
use Rattle.layout.proofs.NumberLaws.{numbered_so}
use Rattle.interface.specs.Basics.{word}
use Rattle.interface.specs.Places.{Cap, nothing, parentless, free, PD, EC, SC, SM, kind_word, greatest}
use Rattle.interface.specs.Boot.{hypervisor, root, cpus, root_pd, root_ec, root_sc, root_objects, exc, root_priority, root_quantum, no_ec, information_page, information_permissions, utcb_page, utcb_permissions, boot_record, boot_object, hypervisor_cap, lent_to_root, root_memory, root_cap, boot_cap}
use Rattle.interface.proofs.Basics.BoolLaws.{cases, and_left, and_right}
use Rattle.objects.specs.declared.Record.{Record}
use Rattle.objects.specs.Records.{words_of}
use Rattle.boot.specs.Held.{hypervisor_object, root_object, held_cap}
use Rattle.objects.proofs.RecordTableLaws.{short_words}

-- the records, by their numbers as the code reads it
module _ (record_number number : ℕ) (is_number : number ≡ record_number) where
  pub idle_words : number < cpus → word (SC ∷ no_ec ∷ 0 ∷ 0 ∷ 0 ∷ []) ≡ word (boot_record record_number)
  unfolding boot_record
  idle_words l = rw (← is_number, lt-ltb number cpus l) (short_words (SC ∷ no_ec ∷ []) 3)

  module _ (g : cpus ≤ number) where
    pub interrupt_words : number < root_pd → word (SM ∷ 0 ∷ 0 ∷ 0 ∷ 0 ∷ []) ≡ word (boot_record record_number)
    unfolding boot_record
    interrupt_words l = rw (← is_number, le-ltb number cpus g, lt-ltb number root_pd l) (short_words (SM ∷ []) 4)

    module _ (h : root_pd ≤ number) where
      pub pd_words : number ≡ root_pd → word (PD ∷ root ∷ 0 ∷ 0 ∷ 0 ∷ []) ≡ word (boot_record record_number)
      unfolding boot_record
      pd_words e = rw (← is_number, le-ltb number cpus g, le-ltb number root_pd h, eq-eqb number root_pd e) (short_words (PD ∷ root ∷ []) 3)

      module _ (p : number ≡ root_pd → ⊥) where
        pub ec_words : number ≡ root_ec → word (EC ∷ root ∷ 0 ∷ 0 ∷ 0 ∷ []) ≡ word (boot_record record_number)
        unfolding boot_record
        ec_words e =
            rw (← is_number, le-ltb number cpus g, le-ltb number root_pd h, ne_eqb number root_pd p, eq-eqb number root_ec e) (short_words (EC ∷ root ∷ []) 3)

        module _ (q : number ≡ root_ec → ⊥) where
          -- past the root's EC there are its SC and free records
          past_ec : boot_record record_number ≡ (if eqb number root_sc then SC ∷ root_ec ∷ root_priority ∷ root_quantum ∷ [] else [])
          unfolding boot_record
          past_ec = rw (← is_number, le-ltb number cpus g, le-ltb number root_pd h, ne_eqb number root_pd p, ne_eqb number root_ec q)

          pub sc_words : number ≡ root_sc → word (SC ∷ root_ec ∷ root_priority ∷ root_quantum ∷ 0 ∷ []) ≡ word (boot_record record_number)
          sc_words e = rw (past_ec, eq-eqb number root_sc e) (short_words (SC ∷ root_ec ∷ root_priority ∷ root_quantum ∷ []) 1)

          pub free_words : (number ≡ root_sc → ⊥) → word (free ∷ 0 ∷ 0 ∷ 0 ∷ 0 ∷ []) ≡ word (boot_record record_number)
          free_words n = rw (past_ec, ne_eqb number root_sc n) (short_words [] 5)

-- the capability for a record
pub object_cap : (record_number number most : ℕ) (words : Record) (cap : Cap) → word (words_of words) ≡ word (boot_record record_number) →
    number ≡ record_number → most ≡ greatest object words.0 → cap ≡ parentless number most → cap ≡ boot_object record_number
object_cap record_number number most words cap is_row is_number is_most is_cap =
    let is_kind : words.0 ≡ word (boot_record record_number) kind_word = ap (λ (row : ℕ → ℕ). row kind_word) is_row in
    is_cap ∙ (rw (is_most, is_number, is_kind))

-- a selector that passes the code's test of the root's selectors is no lower than the first of them
pub selector_from : (selector first past : ℕ) → (leb first selector && ltb selector past) ≡ true → first ≤ selector
selector_from selector first past t = leb-true first selector (and_left (leb first selector) (ltb selector past) t)

-- the objects of the hypervisor and of the root, by a selector's number as the code reads it
module _ (selector number : ℕ) (found : (Option ObjectNumber)) (is_number : number ≡ selector) where
  pub hypervisor_holds : number < root_pd → found ≡ numbered number → found ≡ hypervisor_object selector
  unfolding hypervisor_object
  hypervisor_holds l e = rw (← is_number, lt-ltb number root_pd l) e

  pub hypervisor_holds_none : root_pd ≤ number → found ≡ None → found ≡ hypervisor_object selector
  unfolding hypervisor_object
  hypervisor_holds_none l e = rw (← is_number, le-ltb number root_pd l) e

  -- the code's test of the root's selectors
  abbrev holds_root : Bool
  holds_root = leb exc number && ltb number (exc + root_objects)

  pub root_holds : holds_root ≡ true → found ≡ numbered (root_pd + (number - exc)) → found ≡ root_object selector
  unfolding root_object
  root_holds t e = rw (← is_number, t) e

  pub root_holds_none : holds_root ≡ false → found ≡ None → found ≡ root_object selector
  unfolding root_object
  root_holds_none f e = rw (← is_number, f) e

-- what a place holds by its object
pub held_object : (object : ObjectNumber) (found : (Option ObjectNumber)) (cap : Cap) → found ≡ Some object → cap ≡ boot_object object.0 → cap ≡ held_cap found
unfolding held_cap
held_object object found cap is_found e = rw is_found e

pub held_none : (found : (Option ObjectNumber)) (cap : Cap) → found ≡ None → cap ≡ nothing → cap ≡ held_cap found
unfolding held_cap
held_none found cap is_found e = rw is_found e

held_numbered : (number : ℕ) → number < records → held_cap (numbered number) ≡ boot_object number
unfolding held_cap
held_numbered number l = rw (numbered_so number l)

-- the capabilities of the hypervisor and of the root
module _ (space selector : ℕ) (cap : Cap) where
  pub hypervisor_resource : (number most : ℕ) → number ≡ selector → space < object → most ≡ greatest space free → cap ≡ parentless number most →
      cap ≡ hypervisor_cap space selector
  unfolding hypervisor_cap
  hypervisor_resource number most is_number l is_most e = rw (lt-ltb space object l) (rw (is_most, is_number) at e)

  pub hypervisor_held : (found : (Option ObjectNumber)) → object ≤ space → found ≡ hypervisor_object selector → cap ≡ held_cap found → cap ≡ hypervisor_cap space selector
  unfolding hypervisor_cap hypervisor_object held_cap
  hypervisor_held found g is_found e =
      rw (le-ltb space object g)
      (cases (ltb selector root_pd)
      (λ (t : ltb selector root_pd ≡ true).
      let small : selector < records = omega (arith, ltb-true selector root_pd t) in rw t (rw (is_found, t, held_numbered selector small) at e))
      (λ (f : ltb selector root_pd ≡ false). rw f (rw (is_found, f) at e)))

  pub root_held : (found : (Option ObjectNumber)) → space ≡ object → found ≡ root_object selector → cap ≡ held_cap found → cap ≡ root_cap space selector
  unfolding root_cap root_object held_cap
  root_held found is_object is_found e =
      let test = leb exc selector && ltb selector (exc + root_objects) in
      rw is_object
      (cases test
      (λ (t : test ≡ true).
      let small : root_pd + (selector - exc) < records = omega (arith, ltb-true selector (exc + root_objects) (and_right (leb exc selector) (ltb selector (exc + root_objects)) t)) in
      rw t (rw (is_found, t, held_numbered (root_pd + (selector - exc)) small) at e))
      (λ (f : test ≡ false). rw f (rw (is_found, f) at e)))

  pub root_in_memory : space ≡ memory → cap ≡ root_memory selector → cap ≡ root_cap space selector
  unfolding root_cap
  root_in_memory is_memory e = rw is_memory e

  pub root_elsewhere : (space ≡ object → ⊥) → (space ≡ memory → ⊥) → cap ≡ nothing → cap ≡ root_cap space selector
  unfolding root_cap
  root_elsewhere n m e = rw (ne_eqb space object n, ne_eqb space memory m) e

-- the root's pages, by a selector's number as the code reads it
module _ (selector page : ℕ) (is_page : page ≡ selector) where
  pub lent_page_lem : (permissions place parent : ℕ) → place ≡ place_of hypervisor memory selector → parent ≡ link_of place →
      ◌≡◌ {A = Cap} (record { resource = page; permissions = permissions; parent = parent; depth = 1 }) (lent_to_root selector permissions)
  lent_page_lem permissions place parent is_place is_parent = rw (is_page, is_parent, is_place)

  module _ (cap : Cap) where
    pub information_lent : page ≡ information_page → cap ≡ lent_to_root selector information_permissions → cap ≡ root_memory selector
    unfolding root_memory
    information_lent t e = rw (← is_page, eq-eqb page information_page t) (rw (← is_page) at e)

    pub utcb_lent : (page ≡ information_page → ⊥) → page ≡ utcb_page → cap ≡ lent_to_root selector utcb_permissions → cap ≡ root_memory selector
    unfolding root_memory
    utcb_lent n t e = rw (← is_page, ne_eqb page information_page n, eq-eqb page utcb_page t) (rw (← is_page) at e)

    pub none_lent : (page ≡ information_page → ⊥) → (page ≡ utcb_page → ⊥) → cap ≡ nothing → cap ≡ root_memory selector
    unfolding root_memory
    none_lent n m e = rw (← is_page, ne_eqb page information_page n, ne_eqb page utcb_page m) e

-- the capability of a place, by its domain, space and selector as the code reads them
module _ (place domain : ℕ) (cap : Cap) (is_domain : domain ≡ domain_of place) where
  module _ (space selector : ℕ) (is_space : space ≡ space_of place) (is_selector : selector ≡ selector_of place) where
    pub hypervisor_place : domain ≡ hypervisor → cap ≡ hypervisor_cap space selector → cap ≡ boot_cap place
    unfolding boot_cap
    hypervisor_place h e = rw (← is_domain, eq-eqb domain hypervisor h, ← is_selector, ← is_space) e

    pub root_place : (domain ≡ hypervisor → ⊥) → domain ≡ root → cap ≡ root_cap space selector → cap ≡ boot_cap place
    unfolding boot_cap
    root_place h r e =
        rw (← is_domain, ne_eqb domain hypervisor h, eq-eqb domain root r, ← is_selector, ← is_space) e

  pub other_place : (domain ≡ hypervisor → ⊥) → (domain ≡ root → ⊥) → cap ≡ nothing → cap ≡ boot_cap place
  unfolding boot_cap
  other_place h r e = rw (← is_domain, ne_eqb domain hypervisor h, ne_eqb domain root r) e
