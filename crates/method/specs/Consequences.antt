-- Sentences of document 01 that follow from its definitions, as statements of them.
use Rattle.std.specs.Prelude.{◌≡◌, List, [], ◌∷◌, ℕ, suc, ◌+◌, ◌-◌, ◌≤◌, ℤ, pos, ◌*ℤ◌, nat_abs, length, get_or}
use Rattle.integers.specs.Fraction.{◌over◌, ◌≈◌}
use Rattle.method.specs.Limits.{one_unit}
use Rattle.method.specs.Verdicts.{accepted}
use Rattle.method.specs.Triangle.{Triangle, n, Y, openings_length, cell, entry}
use Rattle.method.specs.Outstandings.{R}
use Rattle.method.specs.RunOff.{reserves_row, unrounded_paid, unrounded_incurred, paid_allowance, incurred_allowance, method}
use Rattle.method.specs.Questions.{input_lengths_right, input_questions}
use Rattle.method.specs.Answers.{Amounts, named_list, row_verdict, row}

pub record Consequences (t : Triangle) : Type 0 where
  -- "A row i with i at least Y starts from R(i, 0) = 0."
  pub later_row : length t.openings ≡ openings_length (Y t) → (i : ℕ) → Y t ≤ i → R t i 0 ≡ pos 0
  -- "An older row starts from its opening outstanding", which is R(i, Y − i). Before that year R is not known, and stands at the same number.
  pub older_row : input_questions t (input_lengths_right t) ≡ accepted → (i k : ℕ) → 1 ≤ i → i + k ≤ Y t → R t i k ≡ entry t.openings i
  -- "Accident year 1 has nothing projected: its paid reserve is 0, its incurred reserve and closing both R(1,n) × 1,000,000."
  pub first_year : reserves_row (method t) 1 ≡ pos 0 ∷ (R t 1 (n t) *ℤ one_unit) ∷ (R t 1 (n t) *ℤ one_unit) ∷ []
  -- "accident year 1 has the same reserves in both"
  pub first_year_unrounded_paid : unrounded_paid (method t) 1 ≡ pos 0 over pos 1
  pub first_year_unrounded_incurred : unrounded_incurred (method t) 1 ≈ (R t 1 (n t) *ℤ one_unit) over pos 1
  -- "both are 0 in accident year 1", of the reserves' allowances
  pub first_year_paid_allowance : paid_allowance (method t) 1 ≡ pos 0 over pos 1
  pub first_year_incurred_allowance : incurred_allowance (method t) 1 ≡ pos 0 over pos 1

-- "One accident year's seen figures": the row is as long as the year has seen cells, and holds their figures in order.
pub record RowConsequences (years : ℤ) (payment_list adjustment_list : List ℤ) (i : ℤ) (named : Amounts) : Type 0 where
  pub long : length (row years payment_list adjustment_list i named) ≡ nat_abs years + 1 - nat_abs i
  pub holds : (k : ℕ) → nat_abs i + suc k ≤ nat_abs years + 1
      → get_or (row years payment_list adjustment_list i named) k (pos 0)
      ≡ cell (pos 0) (nat_abs years) (named_list payment_list adjustment_list named) (nat_abs i) (suc k)

-- Over every triangle, and every accepted row. Proved as `consequences` and `row_consequences`.
abbrev pub ConsequencesOfEveryTriangle : Type 0
ConsequencesOfEveryTriangle = (t : Triangle) → Consequences t

abbrev pub ConsequencesOfEveryAcceptedRow : Type 0
ConsequencesOfEveryAcceptedRow =
    (years : ℤ) (payment_list adjustment_list : List ℤ) (i : ℤ) → row_verdict years payment_list adjustment_list i ≡ accepted
    → (named : Amounts) → RowConsequences years payment_list adjustment_list i named
