-- Where questions 1 to 7 accept, every row is within their limits, so that each of its cells shows its outstanding.
use mathlib.Core.Path.{◌≡◌, refl, ap, subst}
use mathlib.Core.Logic.{inl, inr}
use Prim.Native.Nat.{ℕ, zero, suc, ◌+◌, ◌≤◌}
use native.Mathlib.Omega.{arith}
use lib.IntN.{ℤ, ◌+ℤ◌, ◌-ℤ◌, nat_abs}
use Rattle.integers.proofs.Order.{nat_abs_in_range}
use Rattle.method.specs.Limits.{greatest_outstanding}
use Rattle.method.specs.Triangle.{Triangle, n, S, T, cell}
use Rattle.method.specs.Outstandings.{R}
use Rattle.method.proofs.QuestionFacts.{Observed}
use Rattle.method.proofs.Readings.{R_in_range}
use Rattle.completed.specs.Completed.{RowWithin, of_lists}

module _ (t : Triangle) where
  -- an outstanding is made of the number of years and of three lists only
  abbrev same_lists : Triangle
  same_lists = of_lists (n t) t.payments t.adjustments t.openings

  same_outstanding : (i k : ℕ) → R t i k ≡ R same_lists i k
  unfolding R
  same_outstanding i zero = refl
  same_outstanding i (suc k) = ap (λ (o : ℤ). o -ℤ S t i (suc k) +ℤ T t i (suc k)) (same_outstanding i k)

  pub rows_within : Observed t → (i k : ℕ) → i + k ≤ n t + 1 → RowWithin same_lists i k
  unfolding cell
  rows_within ok zero k seen = record {
    movable = λ j before. record { payment_size = omega arith; adjustment_size = omega arith; in_range_or_unmoved = inr (refl, refl) };
  }
  rows_within ok (suc r) k seen = record {
    movable = λ j before. record {
      payment_size = (ok.payment (suc r) (suc j) (omega arith) (omega arith) (omega arith)).in_range;
      adjustment_size = (ok.adjustment (suc r) (suc j) (omega arith) (omega arith) (omega arith)).in_range;
      in_range_or_unmoved =
          inl (subst (λ (x : ℤ). nat_abs x ≤ nat_abs greatest_outstanding) (same_outstanding (suc r) j)
          (nat_abs_in_range (R t (suc r) j) (R_in_range t ok (suc r) j (omega arith) (omega arith))));
    };
  }
