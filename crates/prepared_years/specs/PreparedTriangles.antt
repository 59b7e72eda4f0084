-- A triangle that is prepared.
use Rattle.std.specs.Prelude.{◌≡◌, List, ℕ, ◌+◌, ◌<◌, ℤ, get_or}
use Rattle.ratios.specs.declared.Sums.{Sums}
use Rattle.ratios.specs.Ratios.{no_sums}
use Rattle.prepared_years.specs.Prepared.{ratios_of}
use Rattle.prepared_years.specs.declared.triangle.PreparedTriangle.{PreparedTriangle}

-- the triangle of these ratios and outstandings
pub record Prepared (n : ℕ) (ratios : List Sums) (outstandings : List ℤ) (t : PreparedTriangle) : Type 0 where
  pub n_is : t.n ≡ n
  pub outstandings_are : t.outstandings ≡ outstandings
  pub year : (j : ℕ) → j + 1 < n → get_or (ratios_of t.years) j no_sums ≡ get_or ratios j no_sums
