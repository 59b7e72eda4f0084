-- The share of a remainder: a quotient rounded half up, and what it leaves; numbers without a sign but for what it leaves.
use Rattle.std.specs.Prelude.{◌≡◌, ℕ, ◌+◌, ◌*◌, ◌<◌, ◌≤◌, ℤ, pos, ◌+ℤ◌, ◌*ℤ◌, neg_ℤ, ◌≤ℤ◌, ◌<ℤ◌}
use Rattle.prepared_ratios.specs.Ratio.{greatest_size, Exposure, FractionOf}
use Rattle.prepared_ratios.specs.declared.Divided.{Divided}

pub record NearestInput (outstanding remainder fraction exposure : ℕ) : Type 0 where
  pub outstanding_most : outstanding ≤ greatest_size
  pub exposed : Exposure exposure
  pub below : remainder < exposure
  pub fraction_of : FractionOf remainder exposure fraction

-- rounded half up: what it leaves is from −exposure / 2 to below exposure / 2
pub record NearestQuotient (outstanding remainder exposure : ℕ) (r : Divided ℕ ℤ) : Type 0 where
  pub exact : pos (outstanding * remainder) ≡ pos (r.quotient * exposure) +ℤ r.left
  pub low : neg_ℤ (pos exposure) ≤ℤ (pos 2 *ℤ r.left)
  pub high : (pos 2 *ℤ r.left) <ℤ pos exposure
  pub most : r.quotient ≤ outstanding

pub record RoundedUp (left exposure up : ℕ) : Type 0 where
  pub most : up ≤ 1
  pub low : 2 * (up * exposure) ≤ 2 * left + exposure
  pub high : 2 * left < 2 * (up * exposure) + exposure
