-- A development year by its two ratios and its exposure: the sums that it was prepared from, and when shares may be taken by it.
use Rattle.std.specs.Prelude.{ℕ, pos}
use Rattle.method.specs.Outstandings.{Sums}
use Rattle.prepared_ratios.specs.declared.Ratio.{Ratio}
use Rattle.method.specs.SumLimits.{SumsInRange}
use Rattle.prepared_ratios.specs.Ratio.{Ready, part_of}

abbrev pub sums_prepared : Ratio → Ratio → ℕ → Sums
sums_prepared payments adjustments exposure = record { P = part_of payments exposure; Q = part_of adjustments exposure; D = pos exposure }

pub record YearReady (payments adjustments : Ratio) (exposure : ℕ) : Type 0 where
  pub payments_ready : Ready payments exposure
  pub adjustments_ready : Ready adjustments exposure
  pub sums_in_range : SumsInRange (sums_prepared payments adjustments exposure)
