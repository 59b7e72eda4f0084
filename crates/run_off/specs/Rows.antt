-- An accident year as it is projected, year by year: its state by the meaning, and what is answered and written of it.
use Rattle.std.specs.Prelude.{◌≡◌, List, [], ◌∷◌, ◌++◌, ℕ, ◌+◌, ◌-◌, ℤ, ◌+ℤ◌, nat_abs, ◌≤◌, length, Option, Some, None, Result, IfOk}
use Rattle.std.proofs.lemmas.List.Edits.{sets}
use Rattle.method.specs.Triangle.{entry}
use Rattle.method.specs.RunOff.{Method, O, last_observed, first_outstanding, figures_to, payments_to, adjustments_to, future_row, reserves_row}
use Rattle.method.specs.Verdicts.{Verdict, accepted, refused}
use Rattle.method.specs.Questions.{question_9_of_year}
use Rattle.verdicts.specs.declared.verdict.Refusal.{Refusal}
use Rattle.verdicts.specs.Verdicts.{verdict_of}
use Rattle.row_states.specs.declared.RowState.{RowState}
use Rattle.run_off.specs.declared.rows.ProjectedRow.{ProjectedRow}

-- what is answered of an accepted row
abbrev pub figures_answered : ProjectedRow → List ℤ
figures_answered r = r.paid.0 ∷ r.incurred.0 ∷ r.closing.0 ∷ r.first_payment.0 ∷ []

-- a list from a place on, or no list: whether it has room for so many figures, and figures that are stored in it
abbrev pub RoomFrom : Option ℕ → ℕ → List ℤ → Type 0
RoomFrom (Some start) count list = start + count ≤ length list
RoomFrom None count list = Unit {0}

abbrev pub written_from : Option ℕ → ℕ → List ℤ → List ℤ → List ℤ
written_from (Some start) place figures list = sets list (start + place) figures
written_from None place figures list = list

module _ (m : Method) (i : ℕ) where
  -- ---- Accident year i after its first j projected years

  unfoldable pub row_state : ℕ → RowState
  row_state j = record {
    projected = j;
    outstanding = record { 0 = O m i (last_observed m i + j) };
    paid = record { 0 = payments_to m i j };
    incurred = record { 0 = first_outstanding m i +ℤ adjustments_to m i j };
    first_payment = record { 0 = entry (figures_to m i j) 1 };
  }

  -- ---- What is answered of accident year i

  -- the payment at i + k = n + 2, which begins its row of the future list; accident year 1 has none and 0 in its place
  abbrev pub first_payment : ℤ
  first_payment = entry (future_row m i) 1

  -- its verdict, and its reserves and this payment where it is accepted
  pub record RowProjected (r : Result ProjectedRow Refusal) : Type 0 where
    pub verdict_is : verdict_of r ≡ question_9_of_year m i
    pub figures_are : IfOk r (λ row. figures_answered row ≡ reserves_row m i ++ first_payment ∷ [])

  -- ---- What is written of it

  -- how many of its years: all, or those before the cell (i, k) that is refused
  unfoldable pub years_written : Verdict → ℕ
  years_written accepted = i - 1
  years_written (refused question p) = nat_abs p.development_year - (last_observed m i + 1)

  pub record RowWritten (start : Option ℕ) (before : List ℤ) (r : Result ProjectedRow Refusal) (after : List ℤ) : Type 0 where
    pub answered : RowProjected r
    pub list_is : after ≡ written_from start 0 (figures_to m i (years_written (question_9_of_year m i))) before
