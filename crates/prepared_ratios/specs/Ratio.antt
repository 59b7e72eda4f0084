-- A ratio of a part, P or Q, to its exposure D, prepared so that a share by it takes no division; numbers without a sign but for the part and its quotient.
use Rattle.std.specs.Prelude.{◌≡◌, ℕ, ◌+◌, ◌*◌, ◌/◌, ◌%◌, ◌≤◌, ◌<◌, ◌^◌, ℤ, pos, nat_abs, ◌+ℤ◌, ◌*ℤ◌}
use Rattle.method.specs.Limits.{greatest_figure}
use Rattle.method.specs.SumLimits.{greatest_sum}
use Rattle.prepared_ratios.specs.declared.Ratio.{Ratio}
use Rattle.prepared_ratios.specs.declared.Divided.{Divided}

-- The size of D, which question 8 has found above 0.
pub record Exposure (exposure : ℕ) : Type 0 where
  pub positive : 0 < exposure
  pub most : exposure ≤ greatest_sum

-- ---- Quotient and remainder

pub record Division (dividend exposure : ℕ) (r : Divided ℕ ℕ) : Type 0 where
  pub quotient_is : r.quotient ≡ dividend / exposure
  pub remainder_is : r.left ≡ dividend % exposure

-- Rounded down, so that the remainder is never negative.
pub record FloorOf (part : ℤ) (exposure : ℕ) (r : Divided ℤ ℕ) : Type 0 where
  pub exact : r.quotient *ℤ pos exposure +ℤ pos r.left ≡ part
  pub below : r.left < exposure
  pub size : nat_abs r.quotient ≤ nat_abs part

-- ---- Fraction

-- remainder / exposure in units of 2^-64, less than 64 of them too little
pub record FractionOf (remainder exposure fraction : ℕ) : Type 0 where
  pub low : fraction * exposure ≤ remainder * 2 ^ 64
  pub high : remainder * 2 ^ 64 < (fraction + 64) * exposure

-- The digit may be too little, by as much as leaves one exposure more than was left before.
pub record NextDigit (left exposure : ℕ) (r : Divided ℕ ℕ) : Type 0 where
  pub exact : left * 2 ^ 20 ≡ r.quotient * exposure + r.left
  pub below : (times : ℕ) → left < times * exposure → r.left < (times + 1) * exposure

-- ---- Reach

-- The limit of question 9, as a natural.
abbrev pub greatest_size : ℕ
greatest_size = nat_abs greatest_figure

-- Above the limit of question 9, and below what 64 bits hold, by more than any share of a remainder.
abbrev pub greatest_product : ℕ
greatest_product = 9_200_000_000_000_000_000

pub record Reach (quotient : ℤ) (reach : ℕ) : Type 0 where
  pub within : (outstanding : ℕ) → outstanding ≤ reach → outstanding * nat_abs quotient ≤ greatest_product
  pub beyond : (outstanding : ℕ) → reach < outstanding → outstanding ≤ greatest_size → greatest_product < outstanding * nat_abs quotient

-- ---- A prepared ratio

-- the part that it was prepared from
abbrev pub part_of : Ratio → ℕ → ℤ
part_of r exposure = r.quotient *ℤ pos exposure +ℤ pos r.remainder

pub record Ready (r : Ratio) (exposure : ℕ) : Type 0 where
  pub exposed : Exposure exposure
  pub below : r.remainder < exposure
  pub fraction : FractionOf r.remainder exposure r.fraction
  pub quotient_most : nat_abs r.quotient ≤ greatest_sum
  pub reach : Reach r.quotient r.reach
