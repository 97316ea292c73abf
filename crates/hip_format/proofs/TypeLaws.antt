-- The types that a memory descriptor may have.
use Prim.Native.Nat.{ℕ, zero, suc, ◌+◌, ◌-◌, ◌*◌, ◌^◌, ◌≤◌, ◌<◌}
use mathlib.Core.Path.{◌≡◌, refl, sym, ap, ◌∙◌}
use mathlib.Core.Logic.{◌↔◌, inl, inr, ⊎_elim}
use mathlib.Core.Bool.{Bool, true, false, ◌&&◌, ◌||◌, and-false, or-false}
use mathlib.Core.List.{List, [], ◌∷◌}
use native.Mathlib.Omega.{arith}
use lib.Dec.{ltb, leb}
use lib.IntN.{ℤ, pos, negsuc}
use lib.ListN.{length, get_or}
use Rattle.std.specs.Bool.{MatchBool}
use Rattle.std.specs.List.{AllWithin, HoldsAt}
use mir.Syntax.{w32}
use mir.Val.{to_z}
use mir.Facts.{to_z_pos}
use borrow.Author.Tests.{ltb-true, ltb-false, leb-true, lt-leb, lt-ltb}
use Rattle.endian.specs.Runs.{spaced, Each}
use Rattle.hip_format.specs.Format.{type_allowed}
use Rattle.hip_format.specs.Reader.{types_allowed}
use Rattle.hip_format.specs.Consequences.{OneOfSix}
use Rattle.hip_format.specs.declared.Memory.{Memory}
use Rattle.hip_format.proofs.FieldLaws.{and_left, and_right}
use Rattle.hip_format.proofs.JudgeLaws.{Decides, decides_most}

-- an allowed type is one of six
six : (kind : ℤ) → type_allowed kind ≡ true → OneOfSix kind
six (negsuc zero) t = inr (inl refl)
six (negsuc (suc zero)) t = inl refl
six (negsuc (suc (suc n))) t = absurd (omega (arith, ltb-true (suc (suc n)) 2 t))
six (pos zero) t = absurd (omega (arith, ltb-true 0 0 (and_left (ltb 0 0) (leb 0 4) t)))
six (pos (suc zero)) t = inr (inr (inl refl))
six (pos (suc (suc zero))) t = inr (inr (inr (inl refl)))
six (pos (suc (suc (suc zero)))) t = inr (inr (inr (inr (inl refl))))
six (pos (suc (suc (suc (suc zero))))) t = inr (inr (inr (inr (inr refl))))
six (pos (suc (suc (suc (suc (suc n)))))) t =
    let five = suc (suc (suc (suc (suc n)))) in
    absurd (omega (arith, leb-true five 4 (and_right (ltb 0 five) (leb five 4) t)))

-- and each of the six is allowed
pub type_exactly : (kind : ℤ) → (type_allowed kind ≡ true) ↔ OneOfSix kind
type_exactly kind = (
  six kind,
  ⊎_elim (λ (e : kind ≡ negsuc 1). rw e)
      (⊎_elim (λ (e : kind ≡ negsuc 0). rw e)
      (⊎_elim (λ (e : kind ≡ pos 1). rw e)
      (⊎_elim (λ (e : kind ≡ pos 2). rw e) (⊎_elim (λ (e : kind ≡ pos 3). rw e) (λ (e : kind ≡ pos 4). rw e))))),
)

-- descriptors' types are allowed exactly if each is
pub types_exactly : (memories : List Memory) → (types_allowed memories ≡ true) ↔ Each (λ (memory : Memory). OneOfSix memory.kind) memories
unfolding types_allowed
types_exactly [] = (λ t. tt, λ e. refl)
types_exactly (memory ∷ memories) =
    let first = type_allowed memory.kind in
    let others = types_allowed memories in (
      λ t. ((type_exactly memory.kind).0 (and_left first others t), (types_exactly memories).0 (and_right first others t)),
      λ e. rw ((type_exactly memory.kind).1 e.0) ((types_exactly memories).1 e.1),
    )

-- two tests that decide one fact are the same
same_decided : {Fact : Type 0} (a b : Bool) → Decides a Fact → Decides b Fact → a ≡ b
same_decided true true one two = refl
same_decided false false one two = refl
same_decided true false one two = sym (two.holds (one.tells refl))
same_decided false true one two = one.holds (two.tells refl)

-- the type, by its bits
pub type_tested : (bits : ℕ) → bits < 2 ^ 32 → ((ltb 0 bits && leb bits 4) || leb 4294967294 bits) ≡ type_allowed (to_z w32 bits)
type_tested bits fits = go (ltb bits 2147483648) refl
  where
    go : (test : Bool) → ltb bits 2147483648 ≡ test → ((ltb 0 bits && leb bits 4) || leb 4294967294 bits) ≡ type_allowed (to_z w32 bits)
    go true t =
        let small : bits < 2 ^ 31 = ltb-true bits 2147483648 t in
        rw (to_z_pos w32 {n = bits} small, lt-leb 4294967294 bits (omega arith)) (or-false (ltb 0 bits && leb bits 4))
    go false f =
        let large : 2147483648 ≤ bits = ltb-false bits 2147483648 f in
        rw (f, lt-leb bits 4 (omega arith), and-false (ltb 0 bits))
        (same_decided (leb 4294967294 bits) (ltb (4294967296 - suc bits) 2) (decides_most 4294967294 bits)
        (record { tells = λ t. omega (arith, ltb-true (4294967296 - suc bits) 2 t); holds = λ l. lt-ltb (4294967296 - suc bits) 2 (omega arith) }))

-- the types of what stands at places a distance apart are allowed where each is, and not where one is not
module _ (what : ℕ → Memory) (distance : ℕ) where
  each_allowed : (at count : ℕ) → ((i : ℕ) → i < count → type_allowed (what (at + distance * i)).kind ≡ true) → types_allowed (spaced what at distance count) ≡ true
  unfolding types_allowed spaced
  each_allowed at zero each = refl
  each_allowed at (suc count) each =
      let here : at + distance * 0 ≡ at = omega arith in
      let first : type_allowed (what at).kind ≡ true = rw here at (each 0 (omega arith)) in
      rw first
      (each_allowed (at + distance) count
      (λ i more. let place : at + distance + distance * i ≡ at + distance * suc i = omega arith in rw place (each (suc i) (omega arith))))

  one_refused : (at count index : ℕ) → index < count → type_allowed (what (at + distance * index)).kind ≡ false → types_allowed (spaced what at distance count) ≡ false
  unfolding types_allowed spaced
  one_refused at zero index inside bad = absurd (omega arith)
  one_refused at (suc count) zero inside bad =
      let here : at + distance * 0 ≡ at = omega arith in
      let first : type_allowed (what at).kind ≡ false = rw here at bad in
      rw first
  one_refused at (suc count) (suc index) inside bad =
      let place : at + distance + distance * index ≡ at + distance * suc index = omega arith in
      rw (one_refused (at + distance) count index (omega arith) (rw place bad)) (and-false (type_allowed (what at).kind))

  -- so they are as a test of each item of a list says
  pub all_tested : {A : Type 0} (at count : ℕ) (kind_of : A → ℤ) (items : List A) (other : A) (tested : Bool) → length items ≡ count →
      ((i : ℕ) → i < count → (what (at + distance * i)).kind ≡ kind_of (get_or items i other)) →
      MatchBool tested (AllWithin (λ (item : A). type_allowed (kind_of item) ≡ true) items 0 (length items))
      ((i : ℕ) × (i < length items) × HoldsAt (λ (item : A). type_allowed (kind_of item) ≡ false) items i) →
      tested ≡ types_allowed (spaced what at distance count)
  all_tested at count kind_of items other true long kinds each =
      sym (each_allowed at count (λ i more. ap type_allowed (kinds i more) ∙ each i other (omega arith) (omega arith)))
  all_tested at count kind_of items other false long kinds one =
      let inside : one.0 < count = omega (arith, one.1) in
      sym (one_refused at count one.0 inside (ap type_allowed (kinds one.0 inside) ∙ one.2 other))
