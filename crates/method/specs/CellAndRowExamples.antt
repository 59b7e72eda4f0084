-- Examples of the calls of a single cell and of a row, as a table each.
use Rattle.std.specs.Prelude.{◌≡◌, List, [], ◌∷◌, map, ℕ, ℤ, pos}
use Rattle.method.specs.Triangle.{Triangle}
use Rattle.method.specs.Verdicts.{Verdict, number, place}
use Rattle.method.specs.Answers.{CellAnswer, single_cell, Amounts, payments, adjustments, row_verdict, row}
use Rattle.method.specs.Examples.{minus, complete, Refusal, refused_by, payments_1, adjustments_1, payments_4, adjustments_4, E4, E8}
use Rattle.method.specs.OtherReadings.{too_large, least_64_bit, late_refusal}

-- ---- Single cells

pub record CellOutcome : Type 0 where
  pub number : ℕ
  pub accident_year : ℤ
  pub development_year : ℤ
  pub payment : ℤ
  pub adjustment : ℤ
  pub outstanding : ℤ

pub record CellExample : Type 0 where
  pub triangle : Triangle
  pub accident_year : ℤ
  pub development_year : ℤ
  pub wanted : CellOutcome

-- accepted, with the three figures of cell (i, k)
abbrev pub gives_cell : Triangle → ℤ → ℤ → ℤ → ℤ → ℤ → CellExample
gives_cell t i k payment adjustment outstanding = record {
  triangle = t;
  accident_year = i;
  development_year = k;
  wanted = record {
    number = 0;
    accident_year = pos 0;
    development_year = pos 0;
    payment = payment;
    adjustment = adjustment;
    outstanding = outstanding;
  };
}

abbrev pub refuses_cell : Triangle → ℤ → ℤ → Refusal → CellExample
refuses_cell t i k refusal = record {
  triangle = t;
  accident_year = i;
  development_year = k;
  wanted = record {
    number = refusal.number;
    accident_year = pos refusal.accident_year;
    development_year = pos refusal.development_year;
    payment = pos 0;
    adjustment = pos 0;
    outstanding = pos 0;
  };
}

abbrev pub triangle_4 : Triangle
triangle_4 = E4.triangle

abbrev pub cell_examples : List CellExample
cell_examples =
    -- year 3 of E4, as document 01 prints it
    gives_cell triangle_4 (pos 3) (pos 2) (pos 60_000_000) (minus 4_000_000) (pos 136_000_000)
    ∷ gives_cell triangle_4 (pos 3) (pos 3) (pos 54_400_000) (minus 81_600_000) (pos 0)
    -- the one unseen cell of accident year 2, the least that has one
    ∷ gives_cell triangle_4 (pos 2) (pos 3) (pos 96_000_000) (minus 144_000_000) (pos 0)
    -- a seen cell, accident year 1, an accident year and a development year above n
    ∷ refuses_cell triangle_4 (pos 2) (pos 2) (refused_by 10 0 0)
    ∷ refuses_cell triangle_4 (pos 1) (pos 4) (refused_by 10 0 0)
    ∷ refuses_cell triangle_4 (pos 4) (pos 1) (refused_by 10 0 0)
    ∷ refuses_cell triangle_4 (pos 3) (pos 4) (refused_by 10 0 0)
    -- negative years are not taken for their sizes
    ∷ refuses_cell triangle_4 (minus 3) (pos 2) (refused_by 10 0 0)
    ∷ refuses_cell triangle_4 (pos 3) (minus 2) (refused_by 10 0 0)
    ∷ refuses_cell triangle_4 least_64_bit least_64_bit (refused_by 10 0 0)
    -- the triangle's own questions come first: a list of a wrong length, E8, and a 9 in another row, also where question 10 fails too
    ∷ refuses_cell (complete 3 payments_1 adjustments_4) (pos 3) (pos 2) (refused_by 3 0 0)
    ∷ refuses_cell E8.triangle (pos 9) (pos 9) (refused_by 8 0 1)
    ∷ refuses_cell late_refusal (pos 2) (pos 3) (refused_by 9 3 2)
    ∷ refuses_cell late_refusal (pos 9) (pos 9) (refused_by 9 3 2)
    ∷ []

abbrev pub CellsHold : List CellExample → Type 0
CellsHold table = map outcome_of table ≡ map (λ (e : CellExample). e.wanted) table
  where
    outcome : CellAnswer → CellOutcome
    outcome a = record {
      number = number a.verdict;
      accident_year = (place a.verdict).accident_year;
      development_year = (place a.verdict).development_year;
      payment = a.payment;
      adjustment = a.adjustment;
      outstanding = a.outstanding;
    }

    outcome_of : CellExample → CellOutcome
    outcome_of e = outcome (single_cell e.triangle e.accident_year e.development_year)

-- ---- Rows; a refusal of a row is at (0, 0)

pub record RowOutcome : Type 0 where
  pub number : ℕ
  pub accident_year : ℤ
  pub development_year : ℤ
  pub row : List ℤ

pub record RowExample : Type 0 where
  pub years : ℤ
  pub payment_list : List ℤ
  pub adjustment_list : List ℤ
  pub named : Amounts
  pub accident_year : ℤ
  pub wanted : RowOutcome

-- n, both lists, the list that is named, the accident year, the number, and the row
abbrev pub row_of_lists : ℤ → List ℤ → List ℤ → Amounts → ℤ → ℕ → List ℤ → RowExample
row_of_lists n s t named i number row = record {
  years = n;
  payment_list = s;
  adjustment_list = t;
  named = named;
  accident_year = i;
  wanted = record { number = number; accident_year = pos 0; development_year = pos 0; row = row };
}

-- on the lists of E4
abbrev pub row_4 : Amounts → ℤ → ℕ → List ℤ → RowExample
row_4 = row_of_lists (pos 3) payments_4 adjustments_4

-- n, both lists, the accident year, and the number by which it is refused
abbrev pub no_row : ℤ → List ℤ → List ℤ → ℤ → ℕ → RowExample
no_row n s t i number = row_of_lists n s t payments i number []

-- two years of amounts that question 5 would refuse
abbrev pub large_amounts : List ℤ
large_amounts = too_large ∷ least_64_bit ∷ pos 7 ∷ []

abbrev pub row_examples : List RowExample
row_examples =
    row_4 payments (pos 1) 0 (pos 100 ∷ pos 60 ∷ pos 40 ∷ [])
    ∷ row_4 payments (pos 2) 0 (pos 80 ∷ pos 90 ∷ [])
    ∷ row_4 adjustments (pos 2) 0 (pos 380 ∷ pos 30 ∷ [])
    ∷ row_4 adjustments (pos 3) 0 (pos 250 ∷ [])
    ∷ row_4 payments (pos 0) 10 []
    ∷ row_4 adjustments (pos 4) 10 []
    ∷ row_4 payments (minus 2) 10 []
    ∷ row_4 payments least_64_bit 10 []
    -- only questions 1, 3 and 10 are asked: no amount is refused, in either list
    ∷ row_of_lists (pos 2) large_amounts large_amounts payments (pos 1) 0 (too_large ∷ least_64_bit ∷ [])
    -- the list that is not named has the wrong length; question 3 comes before 10, and 1 before 3
    ∷ no_row (pos 3) payments_4 adjustments_1 (pos 1) 3
    ∷ no_row (pos 3) payments_1 adjustments_4 (pos 9) 3
    ∷ no_row (pos 33) payments_4 adjustments_4 (pos 1) 1
    -- either list too long, and both of one wrong length
    ∷ no_row (pos 2) payments_4 adjustments_1 (pos 1) 3
    ∷ no_row (pos 2) payments_1 adjustments_4 (pos 1) 3
    ∷ no_row (pos 3) payments_1 adjustments_1 (pos 1) 3
    -- n from 2 to 32, not taken for its size: the most years pass question 1
    ∷ no_row (pos 1) (pos 5 ∷ []) (pos 5 ∷ []) (pos 1) 1
    ∷ no_row (minus 3) payments_4 adjustments_4 (pos 1) 1
    ∷ no_row (pos 32) [] [] (pos 1) 3
    ∷ []

abbrev pub RowsHold : List RowExample → Type 0
RowsHold table = map outcome_of table ≡ map (λ (e : RowExample). e.wanted) table
  where
    outcome : Verdict → List ℤ → RowOutcome
    outcome v xs = record { number = number v; accident_year = (place v).accident_year; development_year = (place v).development_year; row = xs }

    outcome_of : RowExample → RowOutcome
    outcome_of e = outcome
        (row_verdict e.years e.payment_list e.adjustment_list e.accident_year)
        (row e.years e.payment_list e.adjustment_list e.accident_year e.named)
