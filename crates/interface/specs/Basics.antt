-- Words of lists, and what holds below a number: the few general notions that the definitions use.
use Rattle.std.specs.Prelude.{ℕ, zero, suc, ◌+◌, Bool, true, false, if◌then◌else◌, ◌&&◌, ◌||◌, List, [], ◌∷◌, ◌++◌, eqb, ltb, get_or}

-- a number's word in a list, 0 past its end
abbrev pub word : List ℕ → ℕ → ℕ
word list number = get_or list number 0

-- a function changed at one number
unfoldable pub put : {A : Type 0} → (ℕ → A) → ℕ → A → (ℕ → A)
put f number value other = if eqb other number then value else f other

-- a function changed from a number on, where its values become those of a list
unfoldable pub put_from : {A : Type 0} → (ℕ → A) → ℕ → List A → (ℕ → A)
put_from f number [] = f
put_from f number (value ∷ values) = put (put_from f (suc number) values) number value

-- the list of a function's first values
unfoldable pub listed : {A : Type 0} → ℕ → (ℕ → A) → List A
listed zero f = []
listed (suc n) f = listed n f ++ (f n ∷ [])

-- whether a test holds of each number below one
unfoldable pub all_below : ℕ → (ℕ → Bool) → Bool
all_below zero test = true
all_below (suc n) test = all_below n test && test n

-- whether a test holds of some number below one
unfoldable pub any_below : ℕ → (ℕ → Bool) → Bool
any_below zero test = false
any_below (suc n) test = any_below n test || test n

-- how many numbers below one a test holds of
unfoldable pub count_below : ℕ → (ℕ → Bool) → ℕ
count_below zero test = 0
count_below (suc n) test = count_below n test + (if test n then 1 else 0)

-- the numbers below one that a test holds of, rising
unfoldable pub gather : ℕ → (ℕ → Bool) → List ℕ
gather zero test = []
gather (suc n) test = gather n test ++ (if test n then n ∷ [] else [])

-- the lowest number below one that a test holds of, and that one where it holds of none
unfoldable pub lowest : ℕ → (ℕ → Bool) → ℕ
lowest zero test = 0
lowest (suc n) test =
    let below = lowest n test in
    if ltb below n then below else if test n then n else suc n

-- whether a test holds of each member of a list
unfoldable pub all : {A : Type 0} → (A → Bool) → List A → Bool
all test [] = true
all test (a ∷ list) = test a && all test list

-- whether a test holds of some member of a list
unfoldable pub any : {A : Type 0} → (A → Bool) → List A → Bool
any test [] = false
any test (a ∷ list) = test a || any test list

-- whether a number is a member of a list
unfoldable pub member : ℕ → List ℕ → Bool
member number list = any (eqb number) list

-- whether a list of numbers rises, each number once: each member is below every one after it
unfoldable pub rising : List ℕ → Bool
rising [] = true
rising (a ∷ list) = all (ltb a) list && rising list
