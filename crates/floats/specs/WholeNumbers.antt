-- The whole number that a 64-bit float is, and the float of a whole number.
-- A float is `nan`, an infinity `inf sign`, or `fin sign m e`, which is m × 2^e, negative where the sign is true; 2^e is the fraction up e / down e.
-- So every float is read here: numbers of any size, 1e300 too, zeros of either sign, the smallest fractions, infinities and NaN.
use Rattle.std.specs.Prelude.{ℕ, ◌*◌, ◌/◌, ◌%◌, Bool, true, false, cond, ℤ, pos, neg_ℤ, ◌==◌, Float}
use Rattle.std.specs.Float.{nan, inf, fin, binary64}
use Rattle.std.specs.Float.Ieee.{of_int, up, down}

-- a whole number, or that there is none
pub data WholeNumber : Type 0 where
  the : ℤ → WholeNumber
  none : WholeNumber

-- minus zero is 0
abbrev pub signed : Bool → ℕ → ℤ
signed true size = neg_ℤ (pos size)
signed false size = pos size

-- the whole number that x is; there is none where x is not finite or has a fraction
unfoldable pub whole_number : Float → WholeNumber
whole_number nan = none
whole_number (inf sign) = none
whole_number (fin sign m e) = cond (m * up e % down e == 0) (the (signed sign (m * up e / down e))) none

-- whether it is one
abbrev pub is_whole : WholeNumber → Bool
is_whole (the z) = true
is_whole none = false

-- the float of a whole number: up to 2^53 in size it is that number, and of 0 it is plus zero
-- Laws: `float_exact`, `float_of_zero` and `float_not_minus_zero` in proofs/ExactFloats.antt.
abbrev pub float_of : ℤ → Float
float_of z = of_int binary64 z

abbrev pub plus_zero : Float
plus_zero = fin false 0 (pos 0)

abbrev pub minus_zero : Float
minus_zero = fin true 0 (pos 0)
