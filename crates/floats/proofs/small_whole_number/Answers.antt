-- The literal is 3 × 2^51: what is told follows from whether rounding keeps the float, and the cast is of a whole number.
use Rattle.std.proofs.Common.{ap, ◌∙◌, to_z-of_z, w64, Ok}
use lib.Ieee.{of_bits}
use lib.Ieee.Casts.{to_signed_in}
use Rattle.floats.proofs.RoundedFloats.{rounded, rounded_cast_allowed, told_where_rounding_keeps, told_where_rounding_changes}
use Rattle.floats.proofs.small_whole_number.Goals as goal

pub returns-then-not-rounded-x : goal.returns-then-not-rounded-x
unfolding of_bits
returns-then-not-rounded-x c =
    let x = c.args.x in
    told_where_rounding_changes x c.requires c.if-not-rounded-x.true

pub float_to_int-result : goal.float_to_int-result
unfolding of_bits
float_to_int-result c = rounded_cast_allowed c.args.x c.requires

pub returns : goal.returns
unfolding of_bits
returns c =
    let x = c.args.x in
    ap Ok (to_z-of_z {w = w64} (record { sfits = to_signed_in 63 (rounded x) }))
    ∙ told_where_rounding_keeps x c.requires c.if-not-rounded-x.false
