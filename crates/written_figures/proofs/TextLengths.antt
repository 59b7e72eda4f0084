-- The texts of numbers of 64 bits are at most 32 bytes long.
use mathlib.Core.List.{◌∷◌, ◌++◌}
use Prim.Native.Nat.{◌/◌, ◌^◌, ◌≤◌}
use native.Mathlib.Omega.{arith}
use lib.IntN.{ℤ, pos, negsuc, nat_abs}
use lib.ListN.{length, length-append}
use mir.Syntax.{w64}
use mir.Val.{SFits}
use Rattle.written_figures.specs.Writing.{sign, grouped, point, six_digits, whole_text, amount_text}
use Rattle.written_figures.proofs.TextsBefore.{sign_length}
use Rattle.written_figures.proofs.GroupedDigits.{grouped_length}

size-≤ : (x : ℤ) → SFits w64 x → nat_abs x ≤ 2 ^ 63
size-≤ (pos n) f = omega (arith, f.sfits)
size-≤ (negsuc n) f = omega (arith, f.sfits)

pub whole_text_length : (z : ℤ) → SFits w64 z → length (whole_text z) ≤ 32
whole_text_length z f =
    let digits = grouped_length 6 (nat_abs z) (omega (arith, size-≤ z f)) (omega (arith, size-≤ z f)) in
    omega (arith, length-append (sign z) (grouped (nat_abs z)), sign_length z, digits)

pub amount_text_length : (z : ℤ) → SFits w64 z → length (amount_text z) ≤ 32
amount_text_length z f =
    let units = nat_abs z / 1_000_000 in
    let decimals = point ∷ six_digits (nat_abs z) in
    let digits = grouped_length 4 units (omega (arith, size-≤ z f)) (omega (arith, size-≤ z f)) in
    omega (arith, length-append (sign z) (grouped units ++ decimals), length-append (grouped units) decimals, sign_length z, digits)
