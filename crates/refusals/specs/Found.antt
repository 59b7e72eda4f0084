-- What was lent, and what stands at the place of a refusal, in the words of the crates `method` and `completed`.
use Rattle.std.specs.Prelude.{◌≡◌, Option, List, length, ℕ, ◌+◌, ◌-◌, eqb, ℤ, pos}
use Rattle.method.specs.Tests.{amount_right}
use Rattle.method.specs.Triangle.{Triangle, cell}
use Rattle.completed.specs.Square.{CellOfSquare}
use Rattle.completed.specs.Completed.{of_lists, OutstandingAt}
use Rattle.verdicts.specs.declared.verdict.Place.{Place}
use Rattle.refusals.specs.declared.found.Lent.{Lent}
use Rattle.refusals.specs.declared.found.Found.{Found}

-- what is said of a triangle that was lent, and of the cell that was asked for
abbrev pub lent_of : Triangle → Option Place → Lent
lent_of t asked = record {
  years = t.years;
  cut = t.cut;
  asked = asked;
  payments = length t.payments;
  adjustments = length t.adjustments;
  weights = length t.weights;
  openings = length t.openings;
}

-- r is cell (i, k) of a list, where there is such a cell.
pub record CellIn (n : ℕ) (list : List ℤ) (i k : ℕ) (r : ℤ) : Type 0 where
  pub is : CellOfSquare n i k → r ≡ cell (pos 0) n list i k

-- r is its outstanding, where the row is within the limits of questions 5 and 6, as it is up to the cell that question 6 refuses.
pub record OutstandingIn (n : ℕ) (payments adjustments openings : List ℤ) (i k : ℕ) (r : ℤ) : Type 0 where
  pub is : CellOfSquare n i k → OutstandingAt (of_lists n payments adjustments openings) i k r

-- for n years and the cut Y
pub record FoundAt (n Y : ℕ) (payments adjustments weights openings : List ℤ) (i k : ℕ) (r : Found) : Type 0 where
  pub weight_there : CellIn (n - 1) weights i k r.weight
  pub payment_there : CellIn n payments i k r.payment
  pub adjustment_there : CellIn n adjustments i k r.adjustment
  pub outstanding_there : OutstandingIn n payments adjustments openings i k r.outstanding
  pub payment_right_there : r.payment_right ≡ amount_right Y i k r.payment
  pub opening_there : r.opening ≡ eqb (i + k) Y
