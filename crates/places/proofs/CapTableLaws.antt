-- Laws of the place table: the table of some capabilities shows them, and four stores put one capability.
use Prim.Native.Nat.{ℕ, ◌+◌, ◌*◌, ◌/◌, ◌%◌, ◌≤◌, ◌<◌}
use mathlib.Core.Path.{◌≡◌, refl, sym, ◌∙◌, fun_ext}
use mathlib.Core.Logic.{◌≢◌}
use mathlib.Core.Bool.{true, false}
use mathlib.Core.List.{List}
use native.Mathlib.Omega.{arith}
use lib.Dec.{eqb, ltb}
use lib.ListN.{length, set, length-set}
use lib.Seq.{lt-length-set, get_or-set_same, get_or-set_other, ext_get_or}
use borrow.Author.Tests.{eqb-true, eqb-false, lt-ltb, le-ltb}
use Rattle.words.specs.Sizes.{places, place_words}
use Rattle.std.specs.Prelude.{if◌then◌else◌}
use Rattle.interface.specs.Basics.{word, put}
use Rattle.interface.specs.Places.{Cap, nothing, place_table_words, cap_at, cap_words, cap_table}
use Rattle.interface.specs.Effects.{fills, handed, given_caps}
use Rattle.interface.proofs.Basics.BoolLaws.{cases, either_way}
use Rattle.interface.proofs.Basics.PutLaws.{put_same, put_other}
use Rattle.interface.proofs.Tables.TableLaws.{length_listed, word_listed, cap_table_back, shown_cap}
use Rattle.places.specs.Table.{Sized}

-- capabilities that end where the places do
abbrev pub CapsEnd : (ℕ → Cap) → Type 0
CapsEnd caps = (p : ℕ) → places ≤ p → caps p ≡ nothing

pub length_cap_table : (caps : ℕ → Cap) → length (cap_table caps) ≡ place_table_words
length_cap_table caps = length_listed _ _

-- a word of the table of some capabilities
pub cap_table_word : (caps : ℕ → Cap) (i : ℕ) → i < place_table_words → word (cap_table caps) i ≡ word (cap_words (caps (i / place_words))) (i % place_words)
cap_table_word caps i l = word_listed _ _ i l

-- tables of capabilities that are the same at each place are the same
pub cap_table_same : (caps others : ℕ → Cap) → ((p : ℕ) → p < places → caps p ≡ others p) → cap_table caps ≡ cap_table others
cap_table_same caps others same =
    ext_get_or 0 (cap_table caps) (cap_table others) (length_cap_table caps ∙ sym (length_cap_table others))
    (λ i l.
    let small : i < place_table_words = rw (length_cap_table caps) at l in
    rw (cap_table_word caps i small, cap_table_word others i small, same (i / place_words) (omega arith)))

-- the table of capabilities that end where the places do shows them
pub cap_at_table : (caps : ℕ → Cap) → CapsEnd caps → cap_at (cap_table caps) ≡ caps
cap_at_table caps ends =
    fun_ext
    (shown_cap (record { caps = caps; objects = λ r i. 0 })
    (record { places_end = ends; records_end = λ r i l. refl; words_end = λ r i l. refl }))

-- some capabilities, and nothing past the places
at_places : (ℕ → Cap) → ℕ → Cap
at_places caps p = if ltb p places then caps p else nothing

at_places_below : (caps : ℕ → Cap) (p : ℕ) → p < places → at_places caps p ≡ caps p
unfolding at_places
at_places_below caps p l = rw (lt-ltb p places l)

at_places_end : (caps : ℕ → Cap) → CapsEnd (at_places caps)
unfolding at_places
at_places_end caps p l = rw (le-ltb p places l)

-- the table of any capabilities shows those of the places
pub cap_at_table_below : (caps : ℕ → Cap) (p : ℕ) → p < places → cap_at (cap_table caps) p ≡ caps p
cap_at_table_below caps p l =
    rw (
      cap_table_same caps (at_places caps) (λ q small. sym (at_places_below caps q small)),
      cap_at_table (at_places caps) (at_places_end caps),
    )
    (at_places_below caps p l)

-- putting a capability at a place keeps the end, and so does delegating to a place
pub put_end : (caps : ℕ → Cap) (p : ℕ) (cap : Cap) → CapsEnd caps → p < places → CapsEnd (put caps p cap)
put_end caps p cap ends small q l = put_other caps p cap q (λ e. omega arith) ∙ ends q l

pub given_end : (caps : ℕ → Cap) (destination source mask : ℕ) → CapsEnd caps → destination < places → CapsEnd (given_caps caps destination source mask)
given_end caps destination source mask ends small =
    let cap = handed (caps source) source mask in
    either_way CapsEnd (fills caps destination source mask) (put caps destination cap) caps (put_end caps destination cap ends small) ends

-- the four words of a place, as the code reads them
pub loaded : (table : List ℕ) (p first : ℕ) → first ≡ p * place_words →
    ◌≡◌ {A = Cap}
    (record {
      resource = word table first;
      permissions = word table (first + 1);
      parent = word table (first + 2);
      depth = word table (first + 3);
    })
    (cap_at table p)
unfolding cap_at
loaded table p first is_first = let at : first ≡ place_words * p = omega arith in rw at

-- a capability, and where the words of a place begin
module _ (table : List ℕ) (p first : ℕ) (cap : Cap) (is_first : first ≡ p * place_words) where
  -- the table after the four stores
  abbrev stores : List ℕ
  stores = set (set (set (set table first cap.resource) (first + 1) cap.permissions) (first + 2) cap.parent) (first + 3) cap.depth

  shown_there : first + 3 < length table → cap_at stores p ≡ cap
  unfolding cap_at
  shown_there l =
      let at : place_words * p ≡ first = omega arith in
      let l0 : first < length table = omega arith in
      let l1 : first + 1 < length table = omega arith in
      let l2 : first + 2 < length table = omega arith in
      let n01 : first ≢ first + 1 = omega arith in
      let n02 : first ≢ first + 2 = omega arith in
      let n03 : first ≢ first + 3 = omega arith in
      let n12 : first + 1 ≢ first + 2 = omega arith in
      let n13 : first + 1 ≢ first + 3 = omega arith in
      let n23 : first + 2 ≢ first + 3 = omega arith in
      simp (at, get_or-set_same, get_or-set_other, lt-length-set)

  word_elsewhere : (i q : ℕ) → i / place_words ≡ q → q ≢ p → word stores i ≡ word table i
  word_elsewhere i q e n =
      let n0 : i ≢ first = omega arith in
      let n1 : i ≢ first + 1 = omega arith in
      let n2 : i ≢ first + 2 = omega arith in
      let n3 : i ≢ first + 3 = omega arith in
      simp get_or-set_other

  shown_elsewhere : (q : ℕ) → q ≢ p → cap_at stores q ≡ cap_at table q
  unfolding cap_at
  shown_elsewhere q n =
      rw (
        word_elsewhere (place_words * q) q (omega arith) n,
        word_elsewhere (place_words * q + 1) q (omega arith) n,
        word_elsewhere (place_words * q + 2) q (omega arith) n,
        word_elsewhere (place_words * q + 3) q (omega arith) n,
      )

  -- storing the four words of a capability puts it
  pub stored : Sized table → p < places → stores ≡ cap_table (put (cap_at table) p cap)
  stored sized small =
      sym (cap_table_back stores (simp length-set sized)) ∙
      cap_table_same (cap_at stores) (put (cap_at table) p cap)
      (λ q l.
      cases (eqb q p)
      (λ (t : eqb q p ≡ true). rw (eqb-true q p t, put_same (cap_at table) p cap) (shown_there (omega arith)))
      (λ (f : eqb q p ≡ false). rw (put_other (cap_at table) p cap q (eqb-false q p f)) (shown_elsewhere q (eqb-false q p f))))
