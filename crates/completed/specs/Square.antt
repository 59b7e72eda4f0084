-- The cells of a completed triangle.
use Rattle.std.specs.Prelude.{ℕ, ◌≤◌}
use Rattle.method.specs.Limits.{most_accident_years}

-- A cell of the square of n accident years and n development years.
pub record CellOfSquare (n i k : ℕ) : Type 0 where
  pub most : n ≤ most_accident_years
  pub first : 1 ≤ i
  pub last : i ≤ n
  pub first_year : 1 ≤ k
  pub last_year : k ≤ n
