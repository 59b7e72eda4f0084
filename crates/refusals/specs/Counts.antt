-- Years as counts.
use Rattle.std.specs.Prelude.{cond, ℕ, ℤ, pos, negsuc, nat_abs}
use Rattle.method.specs.Limits.{most_years}
use Rattle.method.specs.Tests.{from_to}

-- A number of years, or 0 where no triangle has as many.
unfoldable pub count_of : ℤ → ℕ
count_of years = cond (from_to (pos 0) most_years years) (nat_abs years) 0

-- A number as a count, or 0 where it is below 0.
abbrev pub count_or_0 : ℤ → ℕ
count_or_0 (pos n) = n
count_or_0 (negsuc _) = 0
