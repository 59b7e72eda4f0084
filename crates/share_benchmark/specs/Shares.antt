-- What the benchmark's calls for shares answer.
use Rattle.std.specs.Prelude.{Bool, true, false, ◌&&◌, List, map, ℕ, ℤ, pos, neg_ℤ, Option, Some, None}
use Rattle.method.specs.SumLimits.{greatest_sum}
use Rattle.method.specs.Limits.{greatest_figure}
use Rattle.method.specs.ProjectedYear.{share}
use Rattle.method.specs.Tests.{from_to}
use Rattle.share.specs.Share.{share_or_too_large}
use Rattle.prepared_ratios.specs.declared.Ratio.{Ratio}
use Rattle.share.specs.declared.millionths.Millionths.{Millionths}

abbrev pub ratio_by_numbers : ℤ → ℕ → ℕ → ℕ → Ratio
ratio_by_numbers quotient remainder fraction reach = record { quotient = quotient; remainder = remainder; fraction = fraction; reach = reach }

-- the number that stands for a share: one beyond every share where it is too large
abbrev pub as_number : Option Millionths → ℤ
as_number (Some x) = x.0
as_number None = pos 9_223_372_036_854_775_807

-- the number that stands in the place of an outstanding
unfoldable pub share_number : ℤ → ℤ → ℤ → ℤ
share_number part exposure outstanding = elim (from_to (pos 0) greatest_figure outstanding) [
  | true ↦ as_number (share_or_too_large (share outstanding part exposure))
  | false ↦ neg_ℤ (pos 9_223_372_036_854_775_808)
]

-- the parts and exposures that a ratio is prepared from
abbrev pub in_limits : ℤ → ℤ → Bool
in_limits part exposure = from_to (neg_ℤ (pos greatest_sum)) (pos greatest_sum) part && from_to (pos 1) (pos greatest_sum) exposure

unfoldable pub shares_answer : ℤ → ℤ → ℤ
shares_answer part exposure = elim (in_limits part exposure) [ true ↦ pos 1 | false ↦ pos 0 ]

unfoldable pub shares_of : ℤ → ℤ → List ℤ → List ℤ
shares_of part exposure figures = elim (in_limits part exposure) [ true ↦ map (share_number part exposure) figures | false ↦ figures ]
