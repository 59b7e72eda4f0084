-- What document 01 makes of one projected year, whatever the rule of the year: an account of each row, the future list and the reserves.
use Rattle.std.specs.Prelude.{true, false, List, [], ◌∷◌, ℕ, zero, suc, ◌+◌, ◌-◌, ℤ, pos, ◌+ℤ◌, ◌*ℤ◌}
use Rattle.integers.specs.Fraction.{Fraction, ◌over◌, ◌⊕◌}
use Rattle.method.specs.Limits.{one_unit}
use Rattle.method.specs.Counting.{sum_to, fractions_to, list_to}
use Rattle.method.specs.Triangle.{Triangle, n, seen}
use Rattle.method.specs.Outstandings.{R, sums}
use Rattle.method.specs.ProjectedYear.{Year, Movement, figures, next_year, unrounded_year, allowed_year}

-- n, the observed outstandings R(i, k) in whole units, and year k + 1 of accident year i as made from what year k ends with:
-- from the outstanding, from the unrounded outstanding, and from the outstanding's allowance.
pub record Method : Type 0 where
  pub years : ℕ
  pub observed : ℕ → ℕ → ℤ
  pub rounded : ℕ → ℕ → ℤ → Movement
  pub unrounded : ℕ → ℕ → Fraction → Year Fraction
  pub allowed : ℕ → ℕ → Fraction → Year Fraction

-- The method of document 01 on a triangle: a year is made by the sums of the development year before it.
abbrev pub method : Triangle → Method
method t = record {
  years = n t;
  observed = R t;
  rounded = λ i k r. next_year r (sums t k);
  unrounded = λ i k u. unrounded_year u (sums t k);
  allowed = λ i k a. allowed_year a (sums t k);
}

module _ (m : Method) where
  -- An account of a row: it is read off the observed outstanding where cell (i, k) is seen, and else is the outstanding of the year made from the year before.
  unfoldable pub account : {X : Type 0} → (ℤ → X) → (ℕ → ℕ → X → Year X) → ℕ → ℕ → X
  account first next i zero = first (m.observed i zero *ℤ one_unit)
  account first next i (suc k) = elim (seen m.years i (suc k)) [
    | true ↦ first (m.observed i (suc k) *ℤ one_unit)
    | false ↦ (next i k (account first next i k)).outstanding
  ]

  -- The outstanding of cell (i, k), observed or projected, in millionths. Document 01 calls both R.
  unfoldable pub O : ℕ → ℕ → ℤ
  O = account (λ r. r) m.rounded

  -- the unrounded outstanding, from the same first R
  unfoldable pub U : ℕ → ℕ → Fraction
  U = account (λ r. r over pos 1) m.unrounded

  -- the allowance of the outstanding, which is 0 where it is observed
  unfoldable pub A : ℕ → ℕ → Fraction
  A = account (λ r. pos 0 over pos 1) m.allowed

  -- the unseen cell (i, k + 1): its movement, the unrounded one, and its allowances
  unfoldable pub movement : ℕ → ℕ → Movement
  movement i k = m.rounded i k (O i k)

  unfoldable pub unrounded_movement : ℕ → ℕ → Year Fraction
  unrounded_movement i k = m.unrounded i k (U i k)

  unfoldable pub allowance : ℕ → ℕ → Year Fraction
  allowance i k = m.allowed i k (A i k)

  -- the last observed year of accident year i
  abbrev pub last_observed : ℕ → ℕ
  last_observed i = m.years + 1 - i

  -- its last observed outstanding, in millionths
  abbrev pub first_outstanding : ℕ → ℤ
  first_outstanding i = m.observed i (last_observed i) *ℤ one_unit

  -- Accident year i has i − 1 projected years. This is the year before the j-th of them.
  abbrev pub year_before : ℕ → ℕ → ℕ
  year_before i j = m.years - i + j

  -- Of the first so many projected years of accident year i: their figures, three a year, and the sums of their payments and of their adjustments.
  abbrev pub figures_to : ℕ → ℕ → List ℤ
  figures_to i years = list_to years (λ j. figures (movement i (year_before i j)))

  abbrev pub payments_to : ℕ → ℕ → ℤ
  payments_to i years = sum_to years (λ j. (movement i (year_before i j)).payment)

  abbrev pub adjustments_to : ℕ → ℕ → ℤ
  adjustments_to i years = sum_to years (λ j. (movement i (year_before i j)).adjustment)

  -- ---- The future list and the reserve list; both are terms of document 01

  unfoldable pub future_row : ℕ → List ℤ
  future_row i = figures_to i (i - 1)

  unfoldable pub future : List ℤ
  future = list_to m.years future_row

  -- the paid-based reserve
  unfoldable pub paid_reserve : ℕ → ℤ
  paid_reserve i = payments_to i (i - 1)

  -- the incurred-based reserve
  unfoldable pub incurred_reserve : ℕ → ℤ
  incurred_reserve i = first_outstanding i +ℤ adjustments_to i (i - 1)

  -- the outstanding of year n; "closing" is a term of document 01
  unfoldable pub closing : ℕ → ℤ
  closing i = O i m.years

  unfoldable pub reserves_row : ℕ → List ℤ
  reserves_row i = paid_reserve i ∷ incurred_reserve i ∷ closing i ∷ []

  unfoldable pub reserves : List ℤ
  reserves = list_to m.years reserves_row

  -- ---- The unrounded reserves, and what the reserves are allowed

  unfoldable pub unrounded_paid : ℕ → Fraction
  unrounded_paid i = fractions_to (i - 1) (λ j. (unrounded_movement i (year_before i j)).payment)

  unfoldable pub unrounded_incurred : ℕ → Fraction
  unrounded_incurred i = first_outstanding i over pos 1 ⊕ fractions_to (i - 1) (λ j. (unrounded_movement i (year_before i j)).adjustment)

  unfoldable pub paid_allowance : ℕ → Fraction
  paid_allowance i = fractions_to (i - 1) (λ j. (allowance i (year_before i j)).payment)

  unfoldable pub incurred_allowance : ℕ → Fraction
  incurred_allowance i = fractions_to (i - 1) (λ j. (allowance i (year_before i j)).adjustment)
