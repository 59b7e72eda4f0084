-- The float of a whole number of at most 2^53 in size is that number, and of 0 it is plus zero: rounding changes no such number.
use Rattle.std.proofs.Common.{◌≡◌, ℕ, suc, ◌*◌, ◌/◌, ◌%◌, ◌≤◌, Bool, true, false, cond, T, eqb, ℤ, pos, negsuc, nat_abs, sym, refl, ap, ◌∙◌, subst, ap₂, mul-one, mul-div_cancel, arith, le→leb, lt→ltb, eq-eqb}
use mathlib.Core.Bool.{false≢true}
use native.Mathlib.Nat.{mul-mod_left}
use lib.Ieee.{Float, nan, inf, fin, binary64, up, down, of_int, in_float}
use lib.Ieee.Fits.{down_pos}
use lib.Ieee.Exact.{HasValue}
use lib.Ieee.Back.{round_whole}
use Rattle.floats.specs.WholeNumbers.{the, none, signed, whole_number, float_of, plus_zero, minus_zero}
use Rattle.floats.specs.Reading.{most_exact}

-- the cast from an integer loses nothing
pub cast_exact : (z : ℤ) → nat_abs z ≤ most_exact → T (in_float binary64 z)
unfolding in_float
cast_exact (pos n) h = le→leb n most_exact h
cast_exact (negsuc n) h = lt→ltb n most_exact h

-- ---- The number

abbrev pub negative : ℤ → Bool
negative (pos n) = false
negative (negsuc n) = true

pub float_value : (z : ℤ) → nat_abs z ≤ most_exact → HasValue (float_of z) (negative z) (nat_abs z) 1
unfolding of_int
float_value (pos n) h = round_whole binary64 false n h
float_value (negsuc n) h = round_whole binary64 true (suc n) h

-- a float of a whole number's value is that whole number
whole_by_value : (x : Float) (sign : Bool) (n : ℕ) → HasValue x sign n 1 → whole_number x ≡ the (signed sign n)
unfolding whole_number
whole_by_value nan sign n v = absurd v
whole_by_value (inf t) sign n v = absurd v
whole_by_value (fin t m e) sign n v =
    let same : m * up e ≡ n * down e = sym (mul-one (m * up e)) ∙ v.1 in
    ap₂ (λ (t : Bool) (a : ℕ). cond (eqb (a % down e) 0) (the (signed t (a / down e))) none) v.0 same
    ∙ ap₂ (λ (b : Bool) (a : ℕ). cond b (the (signed sign a)) none) (eq-eqb (n * down e % down e) 0 (mul-mod_left n (down e))) (mul-div_cancel n (down_pos e))

sign_and_size : (z : ℤ) → signed (negative z) (nat_abs z) ≡ z
sign_and_size (pos n) = refl
sign_and_size (negsuc n) = refl

pub float_exact : (z : ℤ) → nat_abs z ≤ most_exact → whole_number (float_of z) ≡ the z
float_exact z h = whole_by_value (float_of z) (negative z) (nat_abs z) (float_value z h) ∙ ap the (sign_and_size z)

-- ---- Zero

pub float_of_zero : float_of (pos 0) ≡ plus_zero
unfolding of_int
float_of_zero = refl

pub float_not_minus_zero : (z : ℤ) → nat_abs z ≤ most_exact → float_of z ≡ minus_zero → ⊥
float_not_minus_zero z h same = not_its_value z (subst (λ x. HasValue x (negative z) (nat_abs z) 1) same (float_value z h))
  where
    not_its_value : (z : ℤ) → HasValue minus_zero (negative z) (nat_abs z) 1 → ⊥
    not_its_value (pos n) v = false≢true (sym v.0)
    not_its_value (negsuc n) v = omega (arith, v.1)
