-- Range descriptors: the definitions are those of the crate `descriptor`, which has the type.
-- A word is `reading`'s `Null` where its type is 0, `Good` with its range where it is well formed, and `Malformed` otherwise; `describe` is the way back.
use Rattle.std.specs.Prelude.{Bool, true, false}
use Rattle.descriptor.specs.declared.Reading.{Reading}
use Rattle.descriptor.specs.declared.Reading.TheVariants.{Null, Malformed, Good}
pub use Rattle.descriptor.specs.Descriptors.{null, type_field, mask_field, order_field, base_field, type_of, word_of, describe, reason_number, why_null}
unfoldable pub use Rattle.descriptor.specs.Descriptors.{well_formed, wrapped, reading, matched}

-- whether a word is read as malformed
abbrev pub malformed : Reading → Bool
malformed Null = false
malformed Malformed = true
malformed (Good range) = false
