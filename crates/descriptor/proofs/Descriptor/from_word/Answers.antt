-- The remainder that is tested is the type field.
use mathlib.Core.Path.{◌≡◌}
use native.Mathlib.Omega.{arith}
use Rattle.descriptor.specs.Descriptors.{type_field}
use Rattle.descriptor.proofs.DescriptorLaws.{kept_null, kept_word}
use Rattle.descriptor.proofs.Descriptor.from_word.Goals as goal

pub returns-then-word-eq0 : goal.returns-then-word-eq0
returns-then-word-eq0 c = let none : type_field c.args.word ≡ 0 = omega arith in rw kept_null

pub returns : goal.returns
returns c = let some : type_field c.args.word ≡ 0 → ⊥ = omega arith in rw kept_word
