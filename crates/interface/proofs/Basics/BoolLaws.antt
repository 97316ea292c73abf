-- Laws of tests: a Bool taken apart, and what `&&`, `||` and a choice tell.
use mathlib.Core.Path.{◌≡◌, refl, sym, ◌∙◌}
use mathlib.Core.Logic.{◌⊎◌, inl, inr}
use mathlib.Core.Bool.{Bool, true, false, not, ◌&&◌, ◌||◌, true≢false, false≢true}
use Rattle.std.specs.Prelude.{if◌then◌else◌}

-- a test holds or fails
pub cases : {C : Type 0} (b : Bool) → (b ≡ true → C) → (b ≡ false → C) → C
cases true t f = t refl
cases false t f = f refl

pub not_both : {C : Type 0} (b : Bool) → b ≡ true → b ≡ false → C
not_both b t f = absurd (true≢false (sym t ∙ f))

module _ (a b : Bool) where
  pub and_left : (a && b) ≡ true → a ≡ true
  and_left h = cases a (λ (t : a ≡ true). t) (λ (f : a ≡ false). let g : (a && b) ≡ false = rw f in not_both (a && b) h g)

  pub and_right : (a && b) ≡ true → b ≡ true
  and_right h = rw (and_left h) at h

  pub both : a ≡ true → b ≡ true → (a && b) ≡ true
  both s t = rw s t

  pub or_left : a ≡ true → (a || b) ≡ true
  or_left h = rw h

  pub or_right : b ≡ true → (a || b) ≡ true
  or_right h = cases a (λ (t : a ≡ true). rw t) (λ (f : a ≡ false). rw f h)

  pub either : (a || b) ≡ true → (a ≡ true) ⊎ (b ≡ true)
  either h = cases a (λ (t : a ≡ true). inl t) (λ (f : a ≡ false). inr (rw f at h))

  pub or_not_right : (a || b) ≡ true → b ≡ false → a ≡ true
  or_not_right h f = cases a (λ (t : a ≡ true). t) (λ (g : a ≡ false). not_both b (rw g at h) f)

  pub neither : a ≡ false → b ≡ false → (a || b) ≡ false
  neither f g = rw f g

  pub or_none_left : (a || b) ≡ false → a ≡ false
  or_none_left h = cases a (λ (t : a ≡ true). not_both (a || b) (or_left t) h) (λ (f : a ≡ false). f)

  pub or_none_right : (a || b) ≡ false → b ≡ false
  or_none_right h = cases b (λ (t : b ≡ true). not_both (a || b) (or_right t) h) (λ (f : b ≡ false). f)

pub false_not : (b : Bool) → b ≡ false → not b ≡ true
false_not b h = rw h

-- two tests that hold together are the same
pub same_test : (a b : Bool) → (a ≡ true → b ≡ true) → (b ≡ true → a ≡ true) → a ≡ b
same_test true b f g = sym (f refl)
same_test false b f g = cases b (λ (t : b ≡ true). not_both false (g t) refl) (λ (h : b ≡ false). sym h)

-- the second of two tests may be another that holds where it does
pub or_second : (a b c : Bool) → (b ≡ true → c ≡ true) → (a || b) ≡ true → (a || c) ≡ true
or_second true b c f h = refl
or_second false b c f h = f h

-- a test asked under a condition may be another that holds where it does
pub guarded : (condition a b : Bool) → (a ≡ true → b ≡ true) → (if condition then a else true) ≡ true →
    (if condition then b else true) ≡ true
guarded true a b f h = f h
guarded false a b f h = refl

-- and so may the first of three tests asked under a condition
pub guarded_first : (condition a b second third : Bool) → (a ≡ true → b ≡ true) → (if condition then a && second && third else true) ≡ true →
    (if condition then b && second && third else true) ≡ true
guarded_first true true b second third f h = rw (f refl) h
guarded_first true false b second third f h = absurd (false≢true h)
guarded_first false a b second third f h = refl

-- a test asked under a condition that holds, and under one that fails
pub asked : (condition a : Bool) → (if condition then a else true) ≡ true → condition ≡ true → a ≡ true
asked condition a h t = rw t at h

pub not_asked : (condition a : Bool) → (condition ≡ true → ⊥) → (if condition then a else true) ≡ true
not_asked true a f = absurd (f refl)
not_asked false a f = refl

-- four tests that all hold, each by itself
pub each_of_four : (a b c d : Bool) → (a && b && c && d) ≡ true → (a ≡ true) × (b ≡ true) × (c ≡ true) × (d ≡ true)
each_of_four a b c d h =
    let three = and_left (a && b && c) d h in
    let two = and_left (a && b) c three in
    (and_left a b two, and_right a b two, and_right (a && b) c three, and_right (a && b && c) d h)

-- a test that holds, asked under any condition
pub asked_anyway : (condition a : Bool) → a ≡ true → (if condition then a else true) ≡ true
asked_anyway true a h = h
asked_anyway false a h = refl

-- a choice in a choice with the same other way is one choice by both tests
pub one_choice : {A : Type 0} (a b : Bool) (x y : A) → (if a then (if b then x else y) else y) ≡ (if a && b then x else y)
one_choice true b x y = refl
one_choice false b x y = refl

-- what holds of both ways of a choice holds of the choice
pub either_way : {A : Type 0} (P : A → Type 0) (test : Bool) (x y : A) → P x → P y → P (if test then x else y)
either_way P true x y p q = p
either_way P false x y p q = q
