-- Laws of descriptors: what each definition gives on each of its ways out, what that tells a caller, and that words, fields and ranges make each other.
use Rattle.std.specs.Prelude.{Ok, Err}
use Prim.Native.Nat.{ℕ, ◌+◌, ◌-◌, ◌*◌, ◌/◌, ◌%◌, ◌^◌, ◌≤◌, ◌<◌, ◌∣◌}
use mathlib.Core.Path.{◌≡◌, refl, sym, ap, subst, ◌∙◌}
use mathlib.Core.Bool.{Bool, true, false, cond, ◌&&◌, ◌||◌, and-eq-true_iff, or-true}
use native.Mathlib.Nat.{mod-eq_of_lt, add-sub_cancel, div-div-eq-div-mul, dvd-mod_iff}
use native.Mathlib.Omega.{arith}
use lib.Dec.{leb, eqb}
use lib.Pow.{pow_pos}
use borrow.Author.Tests.{le-leb, eq-eqb, ne_eqb, leb-true, eqb-true, eqb-false}
use Rattle.words.specs.Sizes.{object, selectors, object_order, greatest_order, place_of, space_of}
use Rattle.words.specs.Ranges.{aligned}
use Rattle.words.proofs.PlaceLaws.{space_back}
use Rattle.words.proofs.RangeLaws.{aligned_divides, size_divides, range_ends}
use Rattle.words.proofs.SizeLaws.{selectors_object, greatest_small, selectors_few}
use Rattle.descriptor.specs.declared.Range.{Range}
use Rattle.descriptor.specs.declared.Reading.{Reading}
use Rattle.descriptor.specs.declared.Reading.TheVariants.{Null, Malformed, Good}
use Rattle.descriptor.specs.declared.Reason.{Reason}
use Rattle.descriptor.specs.declared.Reason.TheVariants.{NullDescriptor, MalformedDescriptor, TypesDiffer, NothingFilled, TranslationBroke}
use Rattle.descriptor.specs.Descriptors.{Received, null, type_field, mask_field, order_field, base_field, type_of, word_of, describe, well_formed, wrapped, range_of, reading, matched, reason_number, why_null, kept, Proper, Match}

-- the lowest field is a remainder, and the highest a quotient

pub type_low : (word : ℕ) → type_field word ≡ word % 2 ^ 2
type_low word = omega arith

pub base_high : (word : ℕ) → word < 2 ^ 32 → base_field word ≡ word / 2 ^ 12
base_high word h = omega arith

-- a word and its fields make each other

pub word_fields : (word : ℕ) → word < 2 ^ 32 → word_of (type_field word) (mask_field word) (order_field word) (base_field word) ≡ word
word_fields word h =
    let mask : word / 2 ^ 7 * 2 ^ 5 + mask_field word ≡ word / 2 ^ 2 = omega (arith, div-div-eq-div-mul word (2 ^ 2) (2 ^ 5)) in
    let order : word / 2 ^ 12 * 2 ^ 5 + order_field word ≡ word / 2 ^ 7 = omega (arith, div-div-eq-div-mul word (2 ^ 7) (2 ^ 5)) in
    omega (arith, type_low word, base_high word h)

pub fields_word : (type mask order base : ℕ) → type < 2 ^ 2 → mask < 2 ^ 5 → order < 2 ^ 5 → base < 2 ^ 20 →
    (type_field (word_of type mask order base) ≡ type) × (mask_field (word_of type mask order base) ≡ mask) ×
    (order_field (word_of type mask order base) ≡ order) × (base_field (word_of type mask order base) ≡ base)
fields_word type mask order base t m o b = (omega arith, omega arith, omega arith, omega arith)

-- a word as a descriptor keeps it

pub kept_null : (word : ℕ) → type_field word ≡ 0 → kept word ≡ null
unfolding kept
kept_null word h = rw (eq-eqb (type_field word) 0 h)

pub kept_word : (word : ℕ) → (type_field word ≡ 0 → ⊥) → kept word ≡ word
unfolding kept
kept_word word h = rw (ne_eqb (type_field word) 0 h)

-- a base as it is read

pub wrapped_object : (space base : ℕ) → space ≡ object → wrapped space base ≡ base % selectors object
unfolding wrapped
wrapped_object space base h = rw (eq-eqb space object h)

pub wrapped_other : (space base : ℕ) → (space ≡ object → ⊥) → wrapped space base ≡ base
unfolding wrapped
wrapped_other space base h = rw (ne_eqb space object h)

pub wrapped_inside : (space base : ℕ) → base < selectors object → wrapped space base ≡ base
unfolding wrapped
wrapped_inside space base h = go (eqb space object)
  where
    go : (there : Bool) → cond there (base % selectors object) base ≡ base
    go true = mod-eq_of_lt h
    go false = refl

-- what a word is read as

pub reading_null : (word : ℕ) → type_field word ≡ 0 → reading word ≡ Null
unfolding reading
reading_null word h = rw (eq-eqb (type_field word) 0 h)

module _ (word space mask order base : ℕ)
    (t : type_field word ≡ type_of space) (m : mask_field word ≡ mask) (o : order_field word ≡ order) (b : base_field word ≡ base) where
  pub reading_malformed : well_formed space order base ≡ false → reading word ≡ Malformed
  unfolding reading
  reading_malformed h = rw (t, o, b, ne_eqb (type_of space) 0 (omega arith), add-sub_cancel space 1, h)

  pub reading_good : well_formed space order base ≡ true → reading word ≡ Good (record { space = space; base = wrapped space base; order = order; mask = mask })
  unfolding reading
  reading_good h = rw (t, m, o, b, ne_eqb (type_of space) 0 (omega arith), add-sub_cancel space 1, h)

-- and what it is read as tells its type
pub null_type : (word : ℕ) → reading word ≡ Null → type_field word ≡ 0
unfolding reading
null_type word h = go (eqb (type_field word) 0) (well_formed (type_field word - 1) (order_field word) (base_field word)) refl h
  where
    go : (none formed : Bool) → eqb (type_field word) 0 ≡ none → cond none Null (cond formed (Good (range_of (type_field word - 1) word)) Malformed) ≡ Null →
        type_field word ≡ 0
    go true formed e q = eqb-true (type_field word) 0 e
    go false false e q = let never : ◌≡◌ {A = ℕ} 0 1 = cc in absurd (omega arith)
    go false true e q = let never : ◌≡◌ {A = ℕ} 0 1 = cc in absurd (omega arith)

pub good_type : (word : ℕ) (range : Range) → reading word ≡ Good range → type_field word ≡ type_of range.space
unfolding reading
good_type word range h = go (eqb (type_field word) 0) (well_formed (type_field word - 1) (order_field word) (base_field word)) refl h
  where
    go : (none formed : Bool) → eqb (type_field word) 0 ≡ none →
        cond none Null (cond formed (Good (range_of (type_field word - 1) word)) Malformed) ≡ Good range → type_field word ≡ type_of range.space
    go true formed e q = let never : ◌≡◌ {A = ℕ} 0 1 = cc in absurd (omega arith)
    go false false e q = let never : ◌≡◌ {A = ℕ} 0 1 = cc in absurd (omega arith)
    go false true e q =
        let same : type_field word - 1 ≡ range.space = cc in
        let some = eqb-false (type_field word) 0 e in
        omega arith

-- a word is read the same once a descriptor keeps it
pub reading_kept : (word : ℕ) → reading (kept word) ≡ reading word
reading_kept word = go (eqb (type_field word) 0) refl
  where
    go : (none : Bool) → eqb (type_field word) 0 ≡ none → reading (kept word) ≡ reading word
    go true e = let h : type_field word ≡ 0 = eqb-true (type_field word) 0 e in rw (kept_null word h, reading_null null refl, reading_null word h)
    go false e = rw (kept_word word (eqb-false (type_field word) 0 e))

-- the rule that matches an item's range with its window

pub matched_null : (window : Reading) → matched Null window ≡ Err NullDescriptor
unfolding matched
matched_null Null = refl
matched_null Malformed = refl
matched_null (Good window) = refl

module _ (item window : Range) where
  pub matched_both : item.space ≡ window.space → matched (Good item) (Good window) ≡ Ok (item, window)
  unfolding matched
  matched_both h = rw (eq-eqb item.space window.space h)

  pub matched_apart : (item.space ≡ window.space → ⊥) → matched (Good item) (Good window) ≡ Err TypesDiffer
  unfolding matched
  matched_apart h = rw (ne_eqb item.space window.space h)

-- a match is of one item and one window
pub both_same : (a b item window : Range) → ◌≡◌ {A = Match} (Ok (a, b)) (Ok (item, window)) → (a ≡ item) × (b ≡ window)
both_same a b item window e = (ap first e, ap second e)
  where
    first : Match → Range
    first (Ok (one, other)) = one
    first (Err reason) = a

    second : Match → Range
    second (Ok (one, other)) = other
    second (Err reason) = b

-- what is matched are two ranges of one space
pub matched_good : (first second : Reading) (item window : Range) → matched first second ≡ Ok (item, window) →
    (first ≡ Good item) × (second ≡ Good window) × (item.space ≡ window.space)
unfolding matched
matched_good Null Null item window h = (cc, cc, cc)
matched_good Null Malformed item window h = (cc, cc, cc)
matched_good Null (Good b) item window h = (cc, cc, cc)
matched_good Malformed Null item window h = (cc, cc, cc)
matched_good Malformed Malformed item window h = (cc, cc, cc)
matched_good Malformed (Good b) item window h = (cc, cc, cc)
matched_good (Good a) Null item window h = (cc, cc, cc)
matched_good (Good a) Malformed item window h = (cc, cc, cc)
matched_good (Good a) (Good b) item window h = go (eqb a.space b.space) refl h
  where
    go : (same : Bool) → eqb a.space b.space ≡ same → cond {A = Match} same (Ok (a, b)) (Err TypesDiffer) ≡ Ok (item, window) →
        (Good a ≡ Good item) × (Good b ≡ Good window) × (item.space ≡ window.space)
    go true e q = let same = both_same a b item window q in (ap Good same.0, ap Good same.1, cc (same.0, same.1, eqb-true a.space b.space e))
    go false e q = (cc, cc, cc)

-- the reasons' numbers

pub reason_some : (reason : Reason) → 1 ≤ reason_number reason
reason_some NullDescriptor = omega arith
reason_some MalformedDescriptor = omega arith
reason_some TypesDiffer = omega arith
reason_some NothingFilled = omega arith
reason_some TranslationBroke = omega arith

pub reason_most : (reason : Reason) → reason_number reason ≤ 5
reason_most NullDescriptor = omega arith
reason_most MalformedDescriptor = omega arith
reason_most TypesDiffer = omega arith
reason_most NothingFilled = omega arith
reason_most TranslationBroke = omega arith

pub why_most : (received : Received) → why_null received ≤ 5
why_most (Err reason) = reason_most reason
why_most (Ok range) = omega arith

-- no two have the same
reason_at : ℕ → Reason
reason_at n = cond (eqb n 1) NullDescriptor (cond (eqb n 2) MalformedDescriptor (cond (eqb n 3) TypesDiffer (cond (eqb n 4) NothingFilled TranslationBroke)))

reason_back : (reason : Reason) → reason_at (reason_number reason) ≡ reason
unfolding reason_at
reason_back NullDescriptor = refl
reason_back MalformedDescriptor = refl
reason_back TypesDiffer = refl
reason_back NothingFilled = refl
reason_back TranslationBroke = refl

pub same_reason : (a b : Reason) → reason_number a ≡ reason_number b → a ≡ b
same_reason a b e = sym (reason_back a) ∙ ap reason_at e ∙ reason_back b

-- which orders and bases are those of a range

module _ (space order base : ℕ) (w : well_formed space order base ≡ true) where
  parts : (leb order (greatest_order space) ≡ true) × (aligned order base ≡ true) × ((eqb space object || leb (base + 2 ^ order) (selectors space)) ≡ true)
  unfolding well_formed
  parts =
      let both = (and-eq-true_iff (leb order (greatest_order space) && aligned order base) (eqb space object || leb (base + 2 ^ order) (selectors space))).0 w in
      let first = (and-eq-true_iff (leb order (greatest_order space)) (aligned order base)).0 both.0 in
      (first.0, first.1, both.1)

  order_small : order ≤ greatest_order space
  order_small = leb-true order (greatest_order space) parts.0

  -- the base as it is read is a multiple of the range's size, and the range ends in its space
  inside : (there : Bool) → eqb space object ≡ there → (there || leb (base + 2 ^ order) (selectors space)) ≡ true →
      (2 ^ order ∣ cond there (base % selectors object) base) × (cond there (base % selectors object) base + 2 ^ order ≤ selectors space)
  inside true e h =
      let small : order ≤ object_order = omega (arith, order_small, greatest_small space) in
      let whole : 2 ^ order ∣ selectors object = size_divides order object_order small in
      let divides : 2 ^ order ∣ base % selectors object = (dvd-mod_iff (2 ^ order) whole).1 ((aligned_divides order base).0 parts.1) in
      (divides, rw (selectors_object space (eqb-true space object e)) (range_ends object_order order (base % selectors object) small divides (omega arith)))
  inside false e h = ((aligned_divides order base).0 parts.1, leb-true (base + 2 ^ order) (selectors space) h)

  wrapped_aligned : aligned order (wrapped space base) ≡ true
  unfolding wrapped
  wrapped_aligned = (aligned_divides order (wrapped space base)).1 (inside (eqb space object) refl parts.2).0

  wrapped_ends : wrapped space base + 2 ^ order ≤ selectors space
  unfolding wrapped
  wrapped_ends = (inside (eqb space object) refl parts.2).1

pub well_formed_lem : (space order base : ℕ) → order ≤ greatest_order space → aligned order base ≡ true → base + 2 ^ order ≤ selectors space →
    well_formed space order base ≡ true
unfolding well_formed
well_formed_lem space order base o a e =
    rw (le-leb order (greatest_order space) o, a, le-leb (base + 2 ^ order) (selectors space) e) (or-true (eqb space object))

-- a range that lies in its space has an order of at most the object space's, and ends no later than that space

pub proper_order : {range : Range} → Proper range → range.order ≤ object_order
proper_order {range} p = omega (arith, p.order_small, greatest_small range.space)

pub proper_end : {range : Range} → Proper range → range.base + 2 ^ range.order ≤ selectors object
proper_end {range} p = omega (arith, p.ends_inside, selectors_few range.space)

-- its places in a domain are of its space
pub proper_space : (domain : ℕ) (range : Range) → Proper range → (p : ℕ) → place_of domain range.space range.base ≤ p →
    p < place_of domain range.space range.base + 2 ^ range.order → space_of p ≡ range.space
proper_space domain range proper p low high =
    let selector = range.base + (p - place_of domain range.space range.base) in
    let at : p ≡ place_of domain range.space selector = omega arith in
    rw at (space_back domain range.space selector proper.space_small (omega (arith, proper.ends_inside)))

-- a range and its descriptor make each other

pub range_back : (range : Range) → Proper range → reading (describe range) ≡ Good range
range_back range p =
    let some : 0 < 2 ^ range.order = pow_pos range.order in
    let small = proper_order p in
    let ends = proper_end p in
    let fields = fields_word (type_of range.space) range.mask range.order range.base (omega arith) (omega arith) (omega arith) (omega arith) in
    reading_good (describe range) range.space range.mask range.order range.base fields.0 fields.1 fields.2 fields.3
    (well_formed_lem range.space range.order range.base p.order_small p.base_aligned p.ends_inside)
    ∙ rw (wrapped_inside range.space range.base (omega arith))

pub good_proper : (word : ℕ) (range : Range) → reading word ≡ Good range → Proper range
unfolding reading
good_proper word range h = go (eqb (type_field word) 0) (well_formed (type_field word - 1) (order_field word) (base_field word)) refl h
  where
    go : (none formed : Bool) → well_formed (type_field word - 1) (order_field word) (base_field word) ≡ formed →
        cond none Null (cond formed (Good (range_of (type_field word - 1) word)) Malformed) ≡ Good range → Proper range
    go true formed w q = let never : ◌≡◌ {A = ℕ} 0 1 = cc in absurd (omega arith)
    go false false w q = let never : ◌≡◌ {A = ℕ} 0 1 = cc in absurd (omega arith)
    go false true w q =
        let same : range_of (type_field word - 1) word ≡ range = cc in
        subst Proper same
        (record {
          space_small = omega arith;
          order_small = order_small (type_field word - 1) (order_field word) (base_field word) w;
          base_aligned = wrapped_aligned (type_field word - 1) (order_field word) (base_field word) w;
          ends_inside = wrapped_ends (type_field word - 1) (order_field word) (base_field word) w;
          mask_small = omega arith;
        })
