-- What a share is asked of, and its answer.
use Rattle.std.specs.Prelude.{ℕ, cond, ℤ, pos, ◌≤ℤ◌, Option, Some, None}
use Rattle.method.specs.Limits.{greatest_figure}
use Rattle.method.specs.Tests.{figure_in_range}
use Rattle.prepared_ratios.specs.declared.Ratio.{Ratio}
use Rattle.prepared_ratios.specs.Ratio.{Ready}
use Rattle.share.specs.declared.millionths.Millionths.{Millionths}

-- An outstanding within the limit of question 9, and a ratio to this exposure.
pub record ShareInput (outstanding : ℤ) (ratio : Ratio) (exposure : ℕ) : Type 0 where
  pub outstanding_nonneg : pos 0 ≤ℤ outstanding
  pub outstanding_most : outstanding ≤ℤ greatest_figure
  pub ready : Ready ratio exposure

-- A share, where its size is within the limit of question 9.
unfoldable pub share_or_too_large : ℤ → Option Millionths
share_or_too_large x = cond (figure_in_range x) (Some (record { 0 = x })) None
