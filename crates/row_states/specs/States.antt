-- The state of an accident year as it is projected: before its first projected year, and with one year more.
use Rattle.std.specs.Prelude.{ℕ, zero, suc, ◌+◌, ◌*◌, ◌≤◌, ◌<◌, ℤ, pos, ◌+ℤ◌, ◌*ℤ◌, nat_abs}
use Rattle.method.specs.Limits.{one_unit, most_accident_years}
use Rattle.share.specs.declared.millionths.Millionths.{Millionths}
use Rattle.prepared_ratios.specs.Ratio.{greatest_size}
use Rattle.projection.specs.declared.Movement.{Movement}
use Rattle.row_states.specs.declared.RowState.{RowState}

-- no year is projected yet, and this outstanding, in whole units, was the last observed one
abbrev pub state_before : ℤ → RowState
state_before observed = record {
  projected = 0;
  outstanding = record { 0 = observed *ℤ one_unit };
  paid = record { 0 = pos 0 };
  incurred = record { 0 = observed *ℤ one_unit };
  first_payment = record { 0 = pos 0 };
}

-- the payment of the first year: that of the year at hand where none is behind
abbrev pub first_of : ℕ → Millionths → Millionths → Millionths
first_of zero payment first = payment
first_of (suc j) payment first = first

abbrev pub with_year : RowState → Movement → RowState
with_year s x = record {
  projected = s.projected + 1;
  outstanding = x.outstanding;
  paid = record { 0 = s.paid.0 +ℤ x.payment.0 };
  incurred = record { 0 = s.incurred.0 +ℤ x.adjustment.0 };
  first_payment = first_of s.projected x.payment s.first_payment;
}

-- a sum of some figures within the limit of question 9, and one more of them
pub record FigureAddable (sum figure : ℤ) : Type 0 where
  pub sum_size : nat_abs sum ≤ most_accident_years * greatest_size
  pub figure_size : nat_abs figure ≤ greatest_size

-- a state and a year that can be added to it
pub record YearAddable (s : RowState) (x : Movement) : Type 0 where
  pub projected : s.projected ≤ most_accident_years
  pub paid : FigureAddable s.paid.0 x.payment.0
  pub incurred : FigureAddable s.incurred.0 x.adjustment.0

-- the year after the projected ones of accident year i
pub record YearToProject (n i : ℕ) (s : RowState) : Type 0 where
  pub last : i ≤ n
  pub most : n ≤ most_accident_years
  pub more : s.projected + 1 < i
