-- Counts of at most 32 years: what the code casts and multiplies fits 64 bits.
use mathlib.Core.Path.{◌≡◌, sym, subst}
use Prim.Native.Nat.{ℕ, ◌+◌, ◌*◌, ◌≤◌}
use native.Mathlib.Nat.{le_trans, mul-le-mul_left, mul-le-mul_right}
use native.Mathlib.Omega.{arith}
use lib.Dec.{T}
use lib.IntN.{ℤ, pos, nat_abs}
use lib.Signed.{non_neg}
use mir.Syntax.{w64}
use mir.Val.{Fits}
use Rattle.method.specs.Limits.{most_accident_years}

-- a count as the code casts it
pub count_fits : (z : ℤ) → z ≡ pos (nat_abs z) → nat_abs z ≤ most_accident_years → T (non_neg z) × Fits w64 (nat_abs z)
count_fits z e h = (subst (λ (x : ℤ). T (non_neg x)) (sym e) tt, record { fits = omega arith })

-- the length of a list as the code multiplies it
pub few_cells : (n m : ℕ) → n ≤ most_accident_years → m ≤ most_accident_years + 1 → n * m ≤ most_accident_years * (most_accident_years + 1)
few_cells n m h k = le_trans (mul-le-mul_left n k) (mul-le-mul_right (most_accident_years + 1) h)
