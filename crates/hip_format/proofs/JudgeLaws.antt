-- What the tests of a page say, and what a judgement tells of them.
use Prim.Native.Nat.{ℕ, ◌-◌, ◌%◌, ◌≤◌}
use mathlib.Core.Path.{◌≡◌, refl, sym, ◌∙◌}
use mathlib.Core.Logic.{◌↔◌}
use mathlib.Core.Bool.{Bool, true, false, ◌&&◌, false≢true, true≢false}
use mathlib.Core.List.{List, [], ◌∷◌}
use native.Mathlib.Omega.{arith}
use lib.Dec.{eqb, leb}
use lib.ListN.{length, take}
use borrow.Author.Tests.{leb-true, eqb-true, le-leb, eq-eqb}
use Rattle.hip_format.specs.Format.{signature, header_size, cpu_size, memory_size, Contents, word_sum}
use Rattle.hip_format.specs.Reader.{length_field, cpu_offset, cpu_size_field, memory_offset, memory_size_field, contents_of, same_bytes, layout_good, types_allowed, Judgement, refused, accepted, unless, judged}
use Rattle.hip_format.specs.Consequences.{LaysOut, LongEnough, Signed, Measured, LaidOut, Summed, Typed}
use Rattle.hip_format.specs.declared.Refusal.TheVariants.{Short, Signature, Length, Layout, Checksum, «Type»}
use Rattle.hip_format.proofs.FieldLaws.{and_left, and_right}

-- a test that a fact decides: it holds exactly where the fact does
pub record Decides (test : Bool) (Fact : Type 0) : Type 0 where
  pub tells : test ≡ true → Fact
  pub holds : Fact → test ≡ true

-- a test that fails where its fact does not hold
pub fails : {Fact : Type 0} (test : Bool) → Decides test Fact → (Fact → ⊥) → test ≡ false
fails true decides no_fact = absurd (no_fact (decides.tells refl))
fails false decides no_fact = refl

-- and the fact does not hold where its test fails
pub refutes : {Fact : Type 0} (test : Bool) → Decides test Fact → test ≡ false → Fact → ⊥
refutes test decides f fact = true≢false (sym (decides.holds fact) ∙ f)

-- two lists of bytes are the same
pub decides_same : (one other : List ℕ) → Decides (same_bytes one other) (one ≡ other)
decides_same [] [] = record { tells = λ t. refl; holds = λ e. refl }
decides_same [] (byte ∷ other) = record { tells = λ t. absurd (false≢true t); holds = λ e. cc }
decides_same (byte ∷ one) [] = record { tells = λ t. absurd (false≢true t); holds = λ e. cc }
decides_same (byte ∷ one) (other_byte ∷ other) =
    record {
      tells = λ t. let first : byte ≡ other_byte = eqb-true byte other_byte (and_left (eqb byte other_byte) (same_bytes one other) t) in
          let rest : one ≡ other = (decides_same one other).tells (and_right (eqb byte other_byte) (same_bytes one other) t) in
          cc;
      holds = λ e. let first : byte ≡ other_byte = cc in
          let rest : one ≡ other = cc in
          rw (eq-eqb byte other_byte first) ((decides_same one other).holds rest);
    }

-- two numbers are equal, or ordered
pub decides_equal : (a b : ℕ) → Decides (eqb a b) (a ≡ b)
decides_equal a b = record { tells = eqb-true a b; holds = eq-eqb a b }

pub decides_most : (a b : ℕ) → Decides (leb a b) (a ≤ b)
decides_most a b = record { tells = leb-true a b; holds = le-leb a b }

-- two tests decide two facts
both : {One Two : Type 0} {a b : Bool} → Decides a One → Decides b Two → Decides (a && b) (One × Two)
both {a = a} {b = b} one two =
    record { tells = λ t. (one.tells (and_left a b t), two.tells (and_right a b t)); holds = λ facts. rw (one.holds facts.0) (two.holds facts.1) }

-- the layout is right
pub decides_layout : (bytes : List ℕ) → Decides (layout_good bytes) (LaysOut bytes)
unfolding layout_good
decides_layout bytes =
    let offset = memory_offset bytes in
    let all =
    both
    (both
    (both
    (both
    (both (both (decides_equal (cpu_offset bytes) header_size) (decides_equal (cpu_size_field bytes) cpu_size)) (decides_equal (memory_size_field bytes) memory_size))
    (decides_most header_size offset))
    (decides_most offset (length bytes)))
    (decides_equal ((offset - header_size) % cpu_size) 0))
    (decides_equal ((length bytes - offset) % memory_size) 0) in
    record {
      tells = λ t. let facts = all.tells t in
          record {
            cpu_part = facts.0.0.0.0.0.0;
            cpu_size_lem = facts.0.0.0.0.0.1;
            memory_size_lem = facts.0.0.0.0.1;
            after_cpus = facts.0.0.0.1;
            inside = facts.0.0.1;
            whole_cpus = facts.0.1;
            whole_memories = facts.1;
          };
      holds = λ l. all.holds ((((((l.cpu_part, l.cpu_size_lem), l.memory_size_lem), l.after_cpus), l.inside), l.whole_cpus), l.whole_memories);
    }

-- what a judgement tells of the six tests
abbrev Told : Judgement → Bool → Bool → Bool → Bool → Bool → Bool → Type 0
Told (refused Short) t1 t2 t3 t4 t5 t6 = t1 ≡ false
Told (refused Signature) t1 t2 t3 t4 t5 t6 = (t1 ≡ true) × (t2 ≡ false)
Told (refused Length) t1 t2 t3 t4 t5 t6 = (t1 ≡ true) × (t2 ≡ true) × (t3 ≡ false)
Told (refused Layout) t1 t2 t3 t4 t5 t6 = (t1 ≡ true) × (t2 ≡ true) × (t3 ≡ true) × (t4 ≡ false)
Told (refused Checksum) t1 t2 t3 t4 t5 t6 = (t1 ≡ true) × (t2 ≡ true) × (t3 ≡ true) × (t4 ≡ true) × (t5 ≡ false)
Told (refused «Type») t1 t2 t3 t4 t5 t6 = (t1 ≡ true) × (t2 ≡ true) × (t3 ≡ true) × (t4 ≡ true) × (t5 ≡ true) × (t6 ≡ false)
Told (accepted contents) t1 t2 t3 t4 t5 t6 = (t1 ≡ true) × (t2 ≡ true) × (t3 ≡ true) × (t4 ≡ true) × (t5 ≡ true) × (t6 ≡ true)

abbrev in_turn : Bool → Bool → Bool → Bool → Bool → Bool → Contents → Judgement
in_turn t1 t2 t3 t4 t5 t6 contents = unless t1 Short (unless t2 Signature (unless t3 Length (unless t4 Layout (unless t5 Checksum (unless t6 «Type» (accepted contents))))))

told : (t1 t2 t3 t4 t5 t6 : Bool) (contents : Contents) → Told (in_turn t1 t2 t3 t4 t5 t6 contents) t1 t2 t3 t4 t5 t6
told false t2 t3 t4 t5 t6 contents = refl
told true false t3 t4 t5 t6 contents = (refl, refl)
told true true false t4 t5 t6 contents = (refl, refl, refl)
told true true true false t5 t6 contents = (refl, refl, refl, refl)
told true true true true false t6 contents = (refl, refl, refl, refl, refl)
told true true true true true false contents = (refl, refl, refl, refl, refl, refl)
told true true true true true true contents = (refl, refl, refl, refl, refl, refl)

module _ (bytes : List ℕ) where
  -- the six tests of some bytes
  abbrev is_long : Bool
  is_long = leb header_size (length bytes)

  abbrev is_signed : Bool
  is_signed = same_bytes (take 4 bytes) signature

  abbrev is_measured : Bool
  is_measured = eqb (length_field bytes) (length bytes)

  abbrev is_laid_out : Bool
  is_laid_out = layout_good bytes

  abbrev is_summed : Bool
  is_summed = eqb (word_sum bytes % 65536) 0

  abbrev is_typed : Bool
  is_typed = types_allowed (contents_of bytes).memories

  judged_in_turn : judged bytes ≡ in_turn is_long is_signed is_measured is_laid_out is_summed is_typed (contents_of bytes)
  unfolding judged
  judged_in_turn = refl

  tells : {judgement : Judgement} → judged bytes ≡ judgement → Told judgement is_long is_signed is_measured is_laid_out is_summed is_typed
  tells {judgement} e = rw (sym judged_in_turn ∙ e) at (told is_long is_signed is_measured is_laid_out is_summed is_typed (contents_of bytes))

  -- what each test decides
  long : Decides is_long (LongEnough bytes)
  long = decides_most header_size (length bytes)

  signed : Decides is_signed (take 4 bytes ≡ signature)
  signed = decides_same (take 4 bytes) signature

  measured : Decides is_measured (length_field bytes ≡ length bytes)
  measured = decides_equal (length_field bytes) (length bytes)

  laid_out : Decides is_laid_out (LaysOut bytes)
  laid_out = decides_layout bytes

  summed : Decides is_summed (word_sum bytes % 65536 ≡ 0)
  summed = decides_equal (word_sum bytes % 65536) 0

  -- bytes that pass all tests are accepted
  pub accepted_of : Typed bytes → judged bytes ≡ accepted (contents_of bytes)
  accepted_of (((((l, s), m), o), c), t) =
      judged_in_turn ∙ (rw (long.holds l, signed.holds s, measured.holds m, laid_out.holds o, summed.holds c, t))

  -- and only those are
  pub typed_of : (contents : Contents) → judged bytes ≡ accepted contents → Typed bytes
  typed_of contents e =
      let t = tells e in
      (((((long.tells t.0, signed.tells t.1), measured.tells t.2), laid_out.tells t.3), summed.tells t.4), t.5)

  -- with what stands in them
  pub contents_of_lem : (contents : Contents) → judged bytes ≡ accepted contents → contents ≡ contents_of bytes
  contents_of_lem contents e = let again = accepted_of (typed_of contents e) in cc

  -- the refusals, each behind the tests before it
  pub refused_short : (judged bytes ≡ refused Short) ↔ (LongEnough bytes → ⊥)
  refused_short = (λ e. refutes is_long long (tells e), λ no_fact. judged_in_turn ∙ (rw (fails is_long long no_fact)))

  pub refused_signature : (judged bytes ≡ refused Signature) ↔ (LongEnough bytes × (Signed bytes → ⊥))
  refused_signature = (
    λ e. let t = tells e in (long.tells t.0, λ facts. refutes is_signed signed t.1 facts.1),
    λ facts. judged_in_turn ∙ (rw (long.holds facts.0, fails is_signed signed (λ fact. facts.1 (facts.0, fact)))),
  )

  pub refused_length : (judged bytes ≡ refused Length) ↔ (Signed bytes × (Measured bytes → ⊥))
  refused_length = (
    λ e. let t = tells e in ((long.tells t.0, signed.tells t.1), λ facts. refutes is_measured measured t.2 facts.1),
    λ facts. judged_in_turn ∙ (rw (long.holds facts.0.0, signed.holds facts.0.1, fails is_measured measured (λ fact. facts.1 (facts.0, fact)))),
  )

  pub refused_layout : (judged bytes ≡ refused Layout) ↔ (Measured bytes × (LaidOut bytes → ⊥))
  refused_layout = (
    λ e. let t = tells e in
        (((long.tells t.0, signed.tells t.1), measured.tells t.2), λ facts. refutes is_laid_out laid_out t.3 facts.1),
    λ facts. judged_in_turn ∙
        (rw (long.holds facts.0.0.0, signed.holds facts.0.0.1, measured.holds facts.0.1, fails is_laid_out laid_out (λ fact. facts.1 (facts.0, fact)))),
  )

  pub refused_checksum : (judged bytes ≡ refused Checksum) ↔ (LaidOut bytes × (Summed bytes → ⊥))
  refused_checksum = (
    λ e. let t = tells e in
        ((((long.tells t.0, signed.tells t.1), measured.tells t.2), laid_out.tells t.3), λ facts. refutes is_summed summed t.4 facts.1),
    λ facts. judged_in_turn ∙
        (rw (
          long.holds facts.0.0.0.0,
          signed.holds facts.0.0.0.1,
          measured.holds facts.0.0.1,
          laid_out.holds facts.0.1,
          fails is_summed summed (λ fact. facts.1 (facts.0, fact)),
        )),
  )

  typed : Decides is_typed (is_typed ≡ true)
  typed = record { tells = λ t. t; holds = λ t. t }

  pub refused_type : (judged bytes ≡ refused «Type») ↔ (Summed bytes × (Typed bytes → ⊥))
  refused_type = (
    λ e. let t = tells e in (
      ((((long.tells t.0, signed.tells t.1), measured.tells t.2), laid_out.tells t.3), summed.tells t.4),
      λ facts. refutes is_typed typed t.5 facts.1,
    ),
    λ facts. judged_in_turn ∙
        (rw (
          long.holds facts.0.0.0.0.0,
          signed.holds facts.0.0.0.0.1,
          measured.holds facts.0.0.0.1,
          laid_out.holds facts.0.0.1,
          summed.holds facts.0.1,
          fails is_typed typed (λ fact. facts.1 (facts.0, fact)),
        )),
  )

  pub accepted_exactly : (judged bytes ≡ accepted (contents_of bytes)) ↔ Typed bytes
  accepted_exactly = (typed_of (contents_of bytes), accepted_of)

  -- both parts are whole only where the length is even
  pub refused_odd : Measured bytes → length bytes % 2 ≡ 1 → judged bytes ≡ refused Layout
  refused_odd facts odd = refused_layout.1 (facts, λ (laid : LaidOut bytes). let lays = laid.1 in omega (arith, lays))
