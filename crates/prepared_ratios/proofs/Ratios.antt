-- The quotient and the remainder of a ratio.
use mathlib.Core.Path.{◌≡◌, ap, ◌∙◌}
use mathlib.Core.Bool.{true}
use Prim.Native.Nat.{ℕ, ◌+◌, ◌-◌, ◌*◌, ◌≤◌, ◌<◌}
use lib.IntN.{ℤ, pos, negsuc, neg_ℤ, nat_abs, ◌+ℤ◌, ◌-ℤ◌, ◌*ℤ◌}
use lib.Signed.{lt_z}
use native.Mathlib.Nat.{div-le_self, div-add-mod', mod-lt}
use native.Mathlib.Omega.{arith}
use mir.Syntax.{w64}
use mir.Val.{SFits}
use Rattle.integers.proofs.RingSolver.{con, ◌:+◌, ◌:-◌, ◌:*◌, neg}
use Rattle.integers.proofs.LinearFacts.{integers, ≡-by}
use Rattle.integers.proofs.Order.{nat_abs_parts, nat_abs_by}
use Rattle.method.specs.SumLimits.{greatest_sum}
use Rattle.integers.proofs.MachineArithmetic.{fits_nat_abs}
use Rattle.prepared_ratios.specs.declared.Ratio.{Ratio}
use Rattle.prepared_ratios.specs.declared.Divided.{Divided}
use Rattle.prepared_ratios.specs.Ratio.{Division, FloorOf, Ready}

-- P, Q, D, and every quotient of them, as numbers of 64 bits
sum_fits : (x : ℤ) → nat_abs x ≤ greatest_sum → SFits w64 x
sum_fits x h = fits_nat_abs w64 x greatest_sum h (omega arith)

-- ---- A part rounded down

module _ {dividend exposure : ℕ} {r : Divided ℕ ℕ} (p : 0 < exposure) (v : Division dividend exposure r) where
  dividend_is : dividend ≡ r.quotient * exposure + r.left
  dividend_is = rw (v.quotient_is, v.remainder_is) (omega (arith, div-add-mod' dividend exposure))

  remainder-< : r.left < exposure
  remainder-< = rw v.remainder_is (mod-lt dividend p)

  pub quotient-≤ : r.quotient ≤ dividend
  quotient-≤ = rw v.quotient_is (div-le_self dividend exposure)

-- −1 − part is not negative, and no larger in size than the part
module _ (part : ℤ) (h : lt_z part (pos 0) ≡ true) (l : nat_abs part ≤ greatest_sum) where
  pub downward-≤ : nat_abs (negsuc 0 -ℤ part) ≤ greatest_sum
  downward-≤ = nat_abs_by (con (negsuc 0) :- con part) greatest_sum (omega (arith, integers, nat_abs_parts part))

  pub downward_fits : SFits w64 (negsuc 0 -ℤ part)
  downward_fits = sum_fits (negsuc 0 -ℤ part) downward-≤

pub floor_downward : (part : ℤ) {exposure : ℕ} {r : Divided ℕ ℕ} → lt_z part (pos 0) ≡ true → 0 < exposure → Division (nat_abs (negsuc 0 -ℤ part)) exposure r
    → FloorOf part exposure (record { quotient = negsuc 0 -ℤ pos r.quotient; left = exposure - 1 - r.left })
floor_downward (pos n) h p v = absurd (omega (arith, integers))
floor_downward (negsuc n) {exposure} {r} h p v = record {
  exact =
      ap (λ t. t *ℤ pos exposure +ℤ pos (exposure - 1 - r.left)) quotient_is
      ∙ ≡-by (neg (con (pos (r.quotient + 1))) :* con (pos exposure) :+ con (pos (exposure - 1 - r.left))) (con (negsuc n))
      (omega (arith, dividend_is p v, remainder-< p v, counted));
  below = omega (arith, remainder-< p v);
  size = nat_abs_by (con (negsuc 0) :- con (pos r.quotient)) (nat_abs (negsuc n)) (omega (arith, quotient-≤ p v, counted));
}
  where
    quotient_is : negsuc 0 -ℤ pos r.quotient ≡ neg_ℤ (pos (r.quotient + 1))
    quotient_is = ≡-by (con (negsuc 0) :- con (pos r.quotient)) (neg (con (pos (r.quotient + 1)))) (omega arith)

    counted : nat_abs (negsuc 0 -ℤ negsuc n) ≡ n
    counted = ap nat_abs (≡-by (con (negsuc 0) :- con (negsuc n)) (con (pos n)) (omega arith))

pub floored_fits : {part : ℤ} {exposure : ℕ} {f : Divided ℤ ℕ} → nat_abs part ≤ greatest_sum → FloorOf part exposure f → SFits w64 f.quotient
floored_fits {f = f} l v = sum_fits f.quotient (omega (arith, v.size))

pub quotient_fits : {r : Ratio} {exposure : ℕ} → Ready r exposure → SFits w64 r.quotient
quotient_fits {r = r} h = sum_fits r.quotient h.quotient_most
