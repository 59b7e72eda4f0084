-- What stands in each cell of a completed triangle: nothing where it is missing, what was observed, in whole units,
-- or what is projected, in millionths.
use Rattle.std.specs.Prelude.{◌≡◌, cond, List, [], ℕ, suc, ◌+◌, ◌-◌, ◌≤◌, ◌<◌, leb, ℤ, pos, ◌+ℤ◌, ◌-ℤ◌, Option}
use Rattle.std.specs.Int.{w64}
use Rattle.std.specs.Option.{unwrap_or}
use Rattle.std.proofs.Common.{SFits}
use Rattle.method.specs.Triangle.{Triangle, seen, cell, S, T}
use Rattle.method.specs.Outstandings.{R}
use Rattle.method.specs.AnswerPlaces.{cell_figure}
use Rattle.outstandings.specs.Observed.{Movable}
use Rattle.completed.specs.declared.outstanding.ObservedLists.{ObservedLists}
use Rattle.completed.specs.declared.shown.Shown.{Shown}
use Rattle.completed.specs.declared.shown.Shown.TheVariants.{Missing, Observed, Projected}

-- What is shown in cell (i, k), of which the seen ones are known from those on whose years add up to `first`.
abbrev pub shown_in : ℕ → ℕ → ℕ → ℕ → ℤ → ℤ → Shown
shown_in n first i k observed projected =
    cond (seen n i k) (cond (leb first (i + k)) (Observed observed) Missing) (Projected projected)

-- An amount of a list: a cell whose years add up to no more than the cut is missing.
-- `figure` is its place among a cell's three in the future list: 0 for payments, 1 for adjustments.
unfoldable pub amount_in : ℕ → ℕ → List ℤ → List ℤ → ℕ → ℕ → ℕ → Shown
amount_in n cut list future figure i k = shown_in n (cut + 1) i k (cell (pos 0) n list i k) (cell_figure n future figure i (k - 1))

-- ---- Outstandings

-- the lists that an outstanding is made of, as a triangle
abbrev pub of_lists : ℕ → List ℤ → List ℤ → List ℤ → Triangle
of_lists n payments adjustments openings =
    record { years = pos n; cut = pos 1; payments = payments; adjustments = adjustments; weights = []; openings = openings }

abbrev pub outstandings_of : ℕ → ObservedLists → Triangle
outstandings_of n observed = of_lists n observed.payments.now observed.adjustments.now observed.openings.now

-- Up to year k all that moves in row i is within the limits of questions 5 and 6, as it is up to every seen cell of an accepted triangle,
-- and up to the cell that question 6 refuses.
pub record RowWithin (t : Triangle) (i k : ℕ) : Type 0 where
  pub movable : (j : ℕ) → j < k → Movable (R t i j) (S t i (suc j)) (T t i (suc j))

-- one step, where 64 bits hold both of its sums
pub record MovedTo (outstanding payment adjustment r : ℤ) : Type 0 where
  pub is : SFits w64 (outstanding -ℤ payment) → SFits w64 (outstanding -ℤ payment +ℤ adjustment) → r ≡ outstanding -ℤ payment +ℤ adjustment

abbrev pub number_or_0 : Option ℤ → ℤ
number_or_0 exact = unwrap_or exact (pos 0)

-- Where the row is within the limits, r is its outstanding at year k.
pub record OutstandingAt (t : Triangle) (i k : ℕ) (r : ℤ) : Type 0 where
  pub is : RowWithin t i k → r ≡ R t i k

-- Where the row of a seen cell is within the limits, its outstanding is shown from the opening on, whose years add up to the cut.
pub record OutstandingShown (n cut : ℕ) (t : Triangle) (future : List ℤ) (i k : ℕ) (r : Shown) : Type 0 where
  pub is : (i + k ≤ n + 1 → RowWithin t i k) → r ≡ shown_in n cut i k (R t i k) (cell_figure n future 2 i (k - 1))
