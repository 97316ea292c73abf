-- Each allowed type has its own text: a type is known by its bits, and the last one is left.
use mathlib.Core.Path.{◌≡◌, refl}
use lib.IntN.{pos, negsuc}
use mir.Syntax.{w32}
use mir.Val.{of_z}
use borrow.Author.Rules.{rules}
use Rattle.interface.specs.Journal.{width}
use Rattle.hip_text.proofs.LineLaws.{type_by_bits, type_left}
use Rattle.hip_text.proofs.put_type.Goals as goal

pub returns-in-minus2 : goal.returns-in-minus2
unfolding width
returns-in-minus2 c =
    let bits : of_z w32 c.args.kind ≡ 4294967294 = search rules in
    rw (type_by_bits c.args.kind (negsuc 1) 4294967294 c.ranges.kind bits refl) c.put.ensures

pub returns-in-minus1 : goal.returns-in-minus1
unfolding width
returns-in-minus1 c =
    let bits : of_z w32 c.args.kind ≡ 4294967295 = search rules in
    rw (type_by_bits c.args.kind (negsuc 0) 4294967295 c.ranges.kind bits refl) c.put-in-minus1.ensures

pub returns-in-1 : goal.returns-in-1
unfolding width
returns-in-1 c =
    let bits : of_z w32 c.args.kind ≡ 1 = search rules in
    rw (type_by_bits c.args.kind (pos 1) 1 c.ranges.kind bits refl) c.put-in-1.ensures

pub returns-in-2 : goal.returns-in-2
unfolding width
returns-in-2 c =
    let bits : of_z w32 c.args.kind ≡ 2 = search rules in
    rw (type_by_bits c.args.kind (pos 2) 2 c.ranges.kind bits refl) c.put-in-2.ensures

pub returns-in-3 : goal.returns-in-3
unfolding width
returns-in-3 c =
    let bits : of_z w32 c.args.kind ≡ 3 = search rules in
    rw (type_by_bits c.args.kind (pos 3) 3 c.ranges.kind bits refl) c.put-in-3.ensures

pub returns-in_default : goal.returns-in_default
unfolding width
returns-in_default c =
    rw (type_left c.args.kind c.requires.kind_value (search rules) (search rules) (search rules) (search rules) (search rules)) c.put-in_default.ensures
