-- Laws of live links: those of a sound state are live, and a delegation between places of one space keeps them.
use Prim.Native.Nat.{ℕ, suc, ◌+◌, ◌<◌}
use mathlib.Core.Path.{◌≡◌, ap}
use mathlib.Core.Bool.{true, false}
use native.Mathlib.Omega.{arith}
use lib.Dec.{eqb}
use borrow.Author.Tests.{eqb-true, eqb-false}
use Rattle.words.specs.Sizes.{places, space_of}
use Rattle.interface.specs.Basics.{put}
use Rattle.interface.specs.Places.{Cap, State, live}
use Rattle.interface.specs.Effects.{fills, handed, given_caps}
use Rattle.interface.proofs.Basics.BoolLaws.{cases, not_both}
use Rattle.interface.proofs.Basics.PutLaws.{put_same, put_other}
use Rattle.interface.proofs.History.NoteLaws.{fills_source, fills_null}
use Rattle.interface.proofs.Sound.Soundness.{Sound}
use Rattle.interface.proofs.Sound.PlaceFacts.{null_cap, Lineage, no_parent, child, live_facts}
use Rattle.descent.proofs.LinkLaws.{sound_linked}
use Rattle.delegation.specs.Delegating.{LiveLinks}

-- a live place's parent is live
parent_alive : (s : State) (p q : ℕ) → Lineage s p → (s.caps p).parent ≡ suc q → live (s.caps q) ≡ true
parent_alive s p q (no_parent e t) linked = absurd (omega arith)
parent_alive s p q (child r c) linked = let same : r ≡ q = omega (arith, c.linked) in rw same at c.alive

-- the links of a sound state are live
pub sound_live : (s : State) → Sound s → LiveLinks s.caps
sound_live s k =
    record {
      linked = sound_linked s k;
      parent_live =
          λ p q l e.
          cases (live (s.caps p)) (λ (t : live (s.caps p) ≡ true). parent_alive s p q (live_facts s p (k.lives p l) t).lineage e)
          (λ (f : live (s.caps p) ≡ false). absurd (omega (arith, ap (λ (cap : Cap). cap.parent) (null_cap s p (k.nulls p l) f))));
    }

-- a delegation that fills its destination, which is null and so has no child
module _ (caps : ℕ → Cap) (links : LiveLinks caps) (destination source mask : ℕ) (small : source < places) (same_space : space_of source ≡ space_of destination)
    (filled : fills caps destination source mask ≡ true) where
  abbrev cap : Cap
  cap = handed (caps source) source mask

  -- a live place stays
  stays : (q : ℕ) → live (caps q) ≡ true → put caps destination cap q ≡ caps q
  stays q t = put_other caps destination cap q (λ e. not_both (live (caps q)) t (rw e (fills_null caps destination source mask filled)))

  source_stays : put caps destination cap source ≡ caps source
  source_stays = stays source (fills_source caps destination source mask filled)

  -- a link afterwards is the new one, or was one before to a place that stays
  link_cases : {C : Type 0} (p q : ℕ) → p < places → (put caps destination cap p).parent ≡ suc q → (p ≡ destination → q ≡ source → C) →
      (put caps destination cap p ≡ caps p → (caps p).parent ≡ suc q → put caps destination cap q ≡ caps q → C) → C
  link_cases p q l e new old =
      cases (eqb p destination)
      (λ (t : eqb p destination ≡ true).
      let here : p ≡ destination = eqb-true p destination t in
      let parent : source + 1 ≡ suc q = rw (here, put_same caps destination cap) at e in
      new here (omega arith))
      (λ (f : eqb p destination ≡ false).
      let same = put_other caps destination cap p (eqb-false p destination f) in
      let linked : (caps p).parent ≡ suc q = rw same at e in
      old same linked (stays q (links.parent_live p q l linked)))

  given_links : LiveLinks (put caps destination cap)
  given_links =
      record {
        linked = record {
          rooted =
              λ p l e.
              cases (eqb p destination)
              (λ (t : eqb p destination ≡ true).
              let parent : source + 1 ≡ 0 = rw (eqb-true p destination t, put_same caps destination cap) at e in absurd (omega arith))
              (λ (f : eqb p destination ≡ false).
              let same = put_other caps destination cap p (eqb-false p destination f) in
              rw same (links.linked.rooted p l (rw same at e)));
          parent_place =
              λ p q l e.
              link_cases p q l e (λ (here : p ≡ destination) (there : q ≡ source). rw there small)
              (λ same linked stay. links.linked.parent_place p q l linked);
          parent_space =
              λ p q l e.
              link_cases p q l e (λ (here : p ≡ destination) (there : q ≡ source). rw (here, there) same_space)
              (λ same linked stay. links.linked.parent_space p q l linked);
          parent_depth =
              λ p q l e.
              link_cases p q l e
              (λ (here : p ≡ destination) (there : q ≡ source). rw (here, there, put_same caps destination cap, source_stays) (omega arith))
              (λ (same : put caps destination cap p ≡ caps p) linked (stay : put caps destination cap q ≡ caps q).
              rw (same, stay) (links.linked.parent_depth p q l linked));
        };
        parent_live =
            λ p q l e.
            link_cases p q l e
            (λ (here : p ≡ destination) (there : q ≡ source). rw (there, source_stays) (fills_source caps destination source mask filled))
            (λ same linked (stay : put caps destination cap q ≡ caps q). rw stay (links.parent_live p q l linked));
      }

-- a delegation between places of one space keeps live links
pub give_links : (caps : ℕ → Cap) (destination source mask : ℕ) → source < places → space_of source ≡ space_of destination → LiveLinks caps →
    LiveLinks (given_caps caps destination source mask)
give_links caps destination source mask small same links =
    cases (fills caps destination source mask)
    (λ (t : fills caps destination source mask ≡ true). rw t (given_links caps links destination source mask small same t))
    (λ (f : fills caps destination source mask ≡ false). rw f links)
