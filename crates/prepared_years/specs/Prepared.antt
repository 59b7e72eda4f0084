-- Development years that are prepared for shares, and the sums that they were prepared from.
use Rattle.std.specs.Prelude.{◌≡◌, List, map, ℕ, ◌+◌, ◌≤◌, ◌<◌, ℤ, pos, ◌≤ℤ◌, length, get_or}
use Rattle.method.specs.Limits.{most_accident_years, greatest_outstanding}
use Rattle.method.specs.Triangle.{entry}
use Rattle.method.specs.SumLimits.{SumsInRange}
use Rattle.prepared_ratios.specs.Ratio.{part_of}
use Rattle.ratios.specs.declared.Sums.{Sums}
use Rattle.ratios.specs.Ratios.{sums_of, no_sums}
use Rattle.prepared_years.specs.declared.year.PreparedYear.{PreparedYear}

-- the sums that a year was prepared from
abbrev pub year_sums : PreparedYear → Sums
year_sums y = record {
  payments = part_of y.payments y.exposure;
  adjustments = part_of y.adjustments y.exposure;
  exposure = pos y.exposure;
}

-- the ratios that years were prepared from, as sums; those of development year k at k − 1
abbrev pub ratios_of : List PreparedYear → List Sums
ratios_of years = map year_sums years

-- a triangle's ratios, as questions 1 to 8 leave them
pub record RatiosInRange (n : ℕ) (ratios : List Sums) : Type 0 where
  pub most : n ≤ most_accident_years
  pub year : (j : ℕ) → j + 1 < n → SumsInRange (sums_of (get_or ratios j no_sums))

-- and its last observed outstandings
pub record Preparable (n : ℕ) (ratios : List Sums) (outstandings : List ℤ) : Type 0 where
  pub ratios_in_range : RatiosInRange n ratios
  pub outstanding : (i : ℕ) → 1 ≤ i → i ≤ n → (pos 0 ≤ℤ entry outstandings i) × (entry outstandings i ≤ℤ greatest_outstanding)

-- the places beyond the years of a triangle, as they were
pub record YearsKept (n : ℕ) (before after : List PreparedYear) : Type 0 where
  pub same_length : length after ≡ length before
  pub others : (j : ℕ) (none : PreparedYear) → n ≤ j + 1 → get_or after j none ≡ get_or before j none

-- every year of a triangle prepared from its ratios, and the other places as they were
pub record YearsPrepared (n : ℕ) (ratios : List Sums) (before after : List PreparedYear) : Type 0 where
  pub kept : YearsKept n before after
  pub year : (j : ℕ) → j + 1 < n → get_or (ratios_of after) j no_sums ≡ get_or ratios j no_sums
