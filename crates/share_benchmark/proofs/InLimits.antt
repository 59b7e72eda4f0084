-- A part and an exposure within their limits, as a ratio is prepared from.
use mathlib.Core.Path.{◌≡◌}
use mathlib.Core.Bool.{true}
use native.Mathlib.Omega.{arith}
use lib.IntN.{ℤ, pos, neg_ℤ, nat_abs}
use lib.Signed.{◌≤ℤ◌, ◌<ℤ◌}
use Rattle.integers.proofs.CommutativeRing.{<ℤ→≤ℤ}
use Rattle.integers.proofs.LinearFacts.{integers}
use Rattle.integers.proofs.Order.{size_of_nonneg}
use Rattle.method.specs.SumLimits.{greatest_sum}
use Rattle.method.specs.Tests.{from_to}
use Rattle.method.proofs.Tests.{and-true, from_to_true}
use Rattle.share_benchmark.specs.Shares.{in_limits}

module _ (part exposure : ℤ) (h : in_limits part exposure ≡ true) where
  both : (from_to (neg_ℤ (pos greatest_sum)) (pos greatest_sum) part ≡ true) × (from_to (pos 1) (pos greatest_sum) exposure ≡ true)
  both = and-true (from_to (neg_ℤ (pos greatest_sum)) (pos greatest_sum) part) (from_to (pos 1) (pos greatest_sum) exposure) h

  range : (pos 1 ≤ℤ exposure) × (exposure ≤ℤ pos greatest_sum)
  range = from_to_true (pos 1) (pos greatest_sum) exposure both.1

  pub exposure_positive : pos 0 <ℤ exposure
  exposure_positive = omega (arith, integers, range.0)

  pub exposure_is : pos (nat_abs exposure) ≡ exposure
  exposure_is = size_of_nonneg exposure (<ℤ→≤ℤ exposure_positive)
