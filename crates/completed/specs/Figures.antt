-- The places of figures among the three of a cell and of an accident year.
use Rattle.std.specs.Prelude.{ℕ}
use Rattle.completed.specs.declared.places.FutureFigure.{FutureFigure}
use Rattle.completed.specs.declared.places.FutureFigure.TheVariants.{Payment, Adjustment, Outstanding}
use Rattle.completed.specs.declared.places.ReserveFigure.{ReserveFigure}
use Rattle.completed.specs.declared.places.ReserveFigure.TheVariants.{Paid, Incurred, Closing}

abbrev pub future_place : FutureFigure → ℕ
future_place Payment = 0
future_place Adjustment = 1
future_place Outstanding = 2

abbrev pub reserve_place : ReserveFigure → ℕ
reserve_place Paid = 0
reserve_place Incurred = 1
reserve_place Closing = 2
