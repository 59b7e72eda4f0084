-- How large the three sums of a development year can be, for any n, where questions 1 to 7 accept.
use mathlib.Core.Path.{◌≡◌, sym, ap, ◌∙◌, subst}
use Prim.Native.Nat.{ℕ, suc, ◌+◌, ◌-◌, ◌≤◌, ◌<◌}
use native.Mathlib.Nat.{le_trans, mul-le-mul_right}
use native.Mathlib.Decide.{dec_le}
use native.Mathlib.Omega.{arith}
use lib.IntN.{ℤ, pos, ◌+ℤ◌, ◌-ℤ◌, ◌*ℤ◌, nat_abs, zero-*ℤ}
use lib.Signed.{◌≤ℤ◌, ◌<ℤ◌, ≤ℤ_refl}
use Rattle.integers.proofs.Order.{*ℤ-nonneg, nat_abs_in_range, nat_abs-≤, nat_abs-*ℤ-≤}
use Rattle.method.specs.SumLimits.{greatest_term, greatest_sum, SumsInRange}
use Rattle.method.specs.Limits.{most_ratios, greatest_weight, greatest_amount, greatest_outstanding}
use Rattle.method.specs.Counting.{sum_to}
use Rattle.method.specs.Triangle.{Triangle, n, Y, S, T, w}
use Rattle.method.specs.Outstandings.{R, sums}
use Rattle.method.proofs.QuestionFacts.{Observed}
use Rattle.method.proofs.Sums.{sum_nonneg, sum_nat_abs, sums_combined}

-- a weight and an amount within their limits
pub term_size : (weight amount : ℤ) → nat_abs weight ≤ nat_abs greatest_weight → nat_abs amount ≤ nat_abs greatest_amount → nat_abs (weight *ℤ amount) ≤ greatest_term
term_size weight amount = nat_abs-*ℤ-≤ weight amount (nat_abs greatest_weight) (nat_abs greatest_amount)

-- a sum of so few terms, each of its greatest size at most
pub few_terms : (m : ℕ) (f : ℕ → ℤ) → m ≤ most_ratios → ((i : ℕ) → 1 ≤ i → i ≤ m → nat_abs (f i) ≤ greatest_term) → nat_abs (sum_to m f) ≤ greatest_sum
few_terms m f few h = le_trans (sum_nat_abs m greatest_term f h) (mul-le-mul_right greatest_term few)

-- The numerator of the outstanding factor is the weighted sum of the next outstandings.
pub factor_is : (t : Triangle) (k : ℕ) → (sums t k).D -ℤ (sums t k).P +ℤ (sums t k).Q ≡ sum_to (n t - k) (λ i. w t i k *ℤ R t i (suc k))
unfolding sums R
factor_is t k = sums_combined (λ i. w t i k) (λ i. R t i k) (λ i. S t i (suc k)) (λ i. T t i (suc k)) (n t - k)

module _ (t : Triangle) (ok : Observed t) where
  pub weight_size : (i k : ℕ) → 1 ≤ i → 1 ≤ k → i + k ≤ n t → nat_abs (w t i k) ≤ nat_abs greatest_weight
  weight_size i k p q h = nat_abs_in_range (w t i k) (ok.weight i k p q h)

  -- the outstanding of year k or k + 1, with the weight of year k: it is known, or it has no weight
  weighted_outstanding : (i k l : ℕ) → 1 ≤ i → 1 ≤ k → i + k ≤ n t → k ≤ l → i + l ≤ n t + 1
      → (pos 0 ≤ℤ (w t i k *ℤ R t i l)) × (nat_abs (w t i k *ℤ R t i l) ≤ greatest_term)
  weighted_outstanding i k l p q h m u = go (dec_le (Y t) (i + k))
    where
      go : Dec (Y t ≤ i + k) → (pos 0 ≤ℤ (w t i k *ℤ R t i l)) × (nat_abs (w t i k *ℤ R t i l) ≤ greatest_term)
      go (yes y) =
          let r : (pos 0 ≤ℤ R t i l) × (R t i l ≤ℤ greatest_outstanding) = ok.outstanding i l p (omega arith) u (omega arith) in (
            *ℤ-nonneg (w t i k) (R t i l) (ok.weight i k p q h).0 r.0,
            term_size (w t i k) (R t i l) (weight_size i k p q h) (nat_abs_in_range (R t i l) r),
          )
      go (no y) =
          let z : w t i k *ℤ R t i l ≡ pos 0 = ap (λ x. x *ℤ R t i l) (ok.unweighted i k p q h (omega arith)) ∙ zero-*ℤ (R t i l) in
          (subst (λ (x : ℤ). pos 0 ≤ℤ x) (sym z) (≤ℤ_refl (pos 0)), subst (λ (x : ℤ). nat_abs x ≤ greatest_term) (sym z) (omega arith))

  module _ (k : ℕ) (q : 1 ≤ k) (l : k < n t) where
    few : n t - k ≤ most_ratios
    few = omega (arith, ok.years.most)

    -- P or Q
    amounts_size : (amount : ℕ → ℤ) → ((i : ℕ) → 1 ≤ i → i ≤ n t - k → nat_abs (amount i) ≤ nat_abs greatest_amount)
        → nat_abs (sum_to (n t - k) (λ i. w t i k *ℤ amount i)) ≤ greatest_sum
    amounts_size amount h = few_terms (n t - k) (λ i. w t i k *ℤ amount i) few
        (λ i a b. term_size (w t i k) (amount i) (weight_size i k a q (omega arith)) (h i a b))

    next_outstandings_nonneg : pos 0 ≤ℤ sum_to (n t - k) (λ i. w t i k *ℤ R t i (suc k))
    next_outstandings_nonneg = sum_nonneg (n t - k) (λ i. w t i k *ℤ R t i (suc k))
        (λ i a b. (weighted_outstanding i k (suc k) a q (omega arith) (omega arith) (omega arith)).0)

    exposure_size : nat_abs (sum_to (n t - k) (λ i. w t i k *ℤ R t i k)) ≤ greatest_sum
    exposure_size = few_terms (n t - k) (λ i. w t i k *ℤ R t i k) few (λ i a b. (weighted_outstanding i k k a q (omega arith) (omega arith) (omega arith)).1)

    pub sums_in_range : pos 0 <ℤ (sums t k).D → SumsInRange (sums t k)
    unfolding sums
    sums_in_range exposed = record {
      P_size = amounts_size (λ i. S t i (suc k)) (λ i a b. (ok.payment i (suc k) a (omega arith) (omega arith)).in_range);
      Q_size = amounts_size (λ i. T t i (suc k)) (λ i a b. (ok.adjustment i (suc k) a (omega arith) (omega arith)).in_range);
      D_positive = exposed;
      D_most = ((nat_abs-≤ (sum_to (n t - k) (λ i. w t i k *ℤ R t i k)) greatest_sum).0 exposure_size).1;
      factor_nonneg = subst (λ (x : ℤ). pos 0 ≤ℤ x) (sym (factor_is t k)) next_outstandings_nonneg;
    }
