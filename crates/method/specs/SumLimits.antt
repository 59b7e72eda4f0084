-- How large the three sums of a development year can be. Document 01 does not print it; it follows from its limits.
use Rattle.std.specs.Prelude.{ℕ, ◌*◌, ◌≤◌, pos, ◌+ℤ◌, ◌-ℤ◌, ◌*ℤ◌, nat_abs, ◌≤ℤ◌, ◌<ℤ◌}
use Rattle.method.specs.Limits.{most_ratios, greatest_weight, greatest_amount}
use Rattle.method.specs.Outstandings.{Sums}

-- one term: a weight times a payment, an adjustment or an outstanding, whose limits are the same
abbrev pub greatest_term : ℕ
greatest_term = nat_abs (greatest_weight *ℤ greatest_amount)

-- P, Q or D: one term for each accident year but the youngest
abbrev pub greatest_sum : ℕ
greatest_sum = most_ratios * greatest_term

-- the sums of a development year as questions 1 to 8 leave them; law `sums_in_range` in proofs/SumBounds.antt
pub record SumsInRange (s : Sums) : Type 0 where
  pub P_size : nat_abs s.P ≤ greatest_sum
  pub Q_size : nat_abs s.Q ≤ greatest_sum
  pub D_positive : pos 0 <ℤ s.D
  pub D_most : s.D ≤ℤ pos greatest_sum
  pub factor_nonneg : pos 0 ≤ℤ (s.D -ℤ s.P +ℤ s.Q)
