-- Ticket 1 of document 02, worked: whole calls with a workbook's cells and their whole answers, each made from an example of document 01 or by hand.
-- The statement is proved in proofs/Examples.antt by computing it.
use Rattle.std.specs.Prelude.{◌≡◌, true, false, List, [], ◌∷◌, map, ℕ, ℤ, pos, negsuc, nat_abs, Float, length, replicate, set}
use Rattle.std.specs.Float.{nan, inf, fin, binary64}
use Rattle.std.specs.Float.Ieee.{of_bits}
use Rattle.floats.specs.WholeNumbers.{float_of, plus_zero, minus_zero}
use Rattle.method.specs.Triangle.{weights_length, future_length}
use Rattle.method.specs.Verdicts.{number, place}
use Rattle.method.specs.Examples.{minus, Refusal, refused_by, payments_1, adjustments_1, payments_4, adjustments_4, payments_7, adjustments_7, E4, future_6}
use Rattle.workbook.specs.Workbook.{CellList, Workbook, pairs_length}
use Rattle.workbook.specs.Answers.{WorkbookAnswer, workbook_answer}

-- ---- How a row is written

-- what a call answers, number and place in figures
pub record Outcome : Type 0 where
  pub number : ℕ
  pub accident_year : ℤ
  pub development_year : ℤ
  pub future : List ℤ
  pub pairs : List Float

pub record Example : Type 0 where
  pub workbook : Workbook
  pub future_room : ℕ
  pub pairs_room : ℕ
  pub wanted : Outcome

-- amounts as cells that all carry their number
abbrev pub cells : List ℤ → CellList
cells amounts = record { kinds = replicate (length amounts) 1; numbers = map float_of amounts }

-- with another kind byte, and with another float, at a place that counts from 0
abbrev pub with_kind : ℕ → ℕ → CellList → CellList
with_kind at kind c = record { kinds = set c.kinds at kind; numbers = c.numbers }

abbrev pub with_float : ℕ → Float → CellList → CellList
with_float at x c = record { kinds = c.kinds; numbers = set c.numbers at x }

-- n, payments, adjustments, weights, Y and openings
abbrev pub workbook : ℕ → CellList → CellList → List ℤ → ℕ → List ℤ → Workbook
workbook n s t w y r = record { years = pos n; cut = pos y; payments = s; adjustments = t; weights = w; openings = r }

-- the same with weights 1 and nothing missing
abbrev pub complete : ℕ → CellList → CellList → Workbook
complete n s t = workbook n s t (replicate (weights_length n) (pos 1)) 1 []

-- accepted, with the future list and the pairs, which are floats of these whole numbers
infix 5 ◌gives◌and◌
abbrev pub ◌gives◌and◌ : Workbook → List ℤ → List ℤ → Example
b gives future and pairs = record {
  workbook = b;
  future_room = length future;
  pairs_room = length pairs;
  wanted = record { number = 0; accident_year = pos 0; development_year = pos 0; future = future; pairs = map float_of pairs };
}

-- refused, with answer lists of the given lengths
abbrev pub with_lengths : ℕ → ℕ → Workbook → Refusal → Example
with_lengths future pairs b refusal = record {
  workbook = b;
  future_room = future;
  pairs_room = pairs;
  wanted = record {
    number = refusal.number;
    accident_year = pos refusal.accident_year;
    development_year = pos refusal.development_year;
    future = replicate future (pos 0);
    pairs = replicate pairs plus_zero;
  };
}

-- refused, with answer lists of the right lengths
infix 70 ◌is◌
abbrev pub ◌is◌ : Workbook → Refusal → Example
b is refusal = with_lengths (future_length (nat_abs b.years)) (pairs_length (nat_abs b.years)) b refusal

-- every row of a table holds
abbrev pub Hold : List Example → Type 0
Hold table = map outcome_of table ≡ map (λ (e : Example). e.wanted) table
  where
    outcome : WorkbookAnswer → Outcome
    outcome a = record {
      number = number a.verdict;
      accident_year = (place a.verdict).accident_year;
      development_year = (place a.verdict).development_year;
      future = a.future;
      pairs = a.pairs;
    }

    outcome_of : Example → Outcome
    outcome_of e = outcome (workbook_answer e.workbook e.future_room e.pairs_room)

-- ---- Floats that are no whole number within the limit

abbrev pub one_half : Float
one_half = fin false 1 (negsuc 0)

-- 1e300
abbrev pub far_too_large : Float
far_too_large = of_bits binary64 9094988921128908188

-- ---- The rows

-- E4: its reserves of year 3 are 114.4 units.
abbrev pub E4_in_pairs : Example
E4_in_pairs =
    complete 3 (cells payments_4) (cells adjustments_4)
    gives E4.wanted.future
    and pos 0 ∷ pos 0 ∷ pos 0 ∷ pos 0 ∷ pos 0 ∷ pos 0
    ∷ pos 96 ∷ pos 0 ∷ pos 96 ∷ pos 0 ∷ pos 0 ∷ pos 0
    ∷ pos 114 ∷ pos 400_000 ∷ pos 114 ∷ pos 400_000 ∷ pos 0 ∷ pos 0 ∷ []

-- E7: its missing cell is blank, with floats beside it that are not read.
abbrev pub E7_with_blanks : Example
E7_with_blanks =
    workbook 3 (with_float 0 nan (with_kind 0 0 (cells payments_7))) (with_float 0 one_half (with_kind 0 0 (cells adjustments_7)))
    (pos 0 ∷ pos 1 ∷ pos 1 ∷ []) 2 (pos 200 ∷ [])
    gives future_6
    and pos 0 ∷ pos 0 ∷ pos 0 ∷ pos 0 ∷ pos 0 ∷ pos 0
    ∷ pos 96 ∷ pos 0 ∷ pos 96 ∷ pos 0 ∷ pos 0 ∷ pos 0
    ∷ pos 124 ∷ pos 0 ∷ pos 124 ∷ pos 0 ∷ pos 0 ∷ pos 0 ∷ []

-- E3, its payments of 0 given as minus zero.
abbrev pub E3_with_minus_zeros : Example
E3_with_minus_zeros =
    complete 2 (with_float 2 minus_zero (with_float 0 minus_zero (cells (pos 0 ∷ pos 127 ∷ pos 0 ∷ [])))) (cells (pos 128 ∷ minus 1 ∷ pos 1 ∷ []))
    gives pos 992_188 ∷ minus 7_812 ∷ pos 0 ∷ []
    and pos 0 ∷ pos 0 ∷ pos 0 ∷ pos 0 ∷ pos 0 ∷ pos 0
    ∷ pos 0 ∷ pos 992_188 ∷ pos 0 ∷ pos 992_188 ∷ pos 0 ∷ pos 0 ∷ []

-- P = −1, Q = −4 and D = 3, so the youngest year's payment is −1/3 of a unit and its adjustment −4/3: both reserves are −333,333 millionths.
abbrev pub below_zero : Example
below_zero =
    complete 2 (cells (pos 0 ∷ minus 1 ∷ pos 0 ∷ [])) (cells (pos 3 ∷ minus 4 ∷ pos 1 ∷ []))
    gives minus 333_333 ∷ minus 1_333_333 ∷ pos 0 ∷ []
    and pos 0 ∷ pos 0 ∷ pos 0 ∷ pos 0 ∷ pos 0 ∷ pos 0
    ∷ minus 1 ∷ pos 666_667 ∷ minus 1 ∷ pos 666_667 ∷ pos 0 ∷ pos 0 ∷ []

abbrev pub examples : List Example
examples =
    E4_in_pairs
    ∷ E7_with_blanks
    ∷ E3_with_minus_zeros
    ∷ below_zero
    -- a whole number too large is left to question 5
    ∷ complete 2 (with_float 0 far_too_large (cells payments_1)) (cells adjustments_1) is refused_by 5 1 1
    -- with one half beside it, question 12 decides
    ∷ complete 2 (with_float 0 far_too_large (cells payments_1)) (with_float 2 one_half (cells adjustments_1)) is refused_by 12 2 1
    ∷ complete 2 (cells payments_1) (with_float 1 nan (cells adjustments_1)) is refused_by 12 1 2
    ∷ complete 2 (with_float 1 (inf false) (cells payments_1)) (with_float 0 (inf true) (cells adjustments_1)) is refused_by 12 1 2
    -- 11 of both lists is asked before 12 of either
    ∷ complete 2 (with_float 0 nan (cells payments_1)) (with_kind 2 2 (cells adjustments_1)) is refused_by 11 2 1
    -- a kind byte of 2, whatever stands beside it
    ∷ complete 2 (with_kind 1 2 (with_float 1 nan (cells payments_1))) (with_kind 0 255 (cells adjustments_1)) is refused_by 11 1 2
    -- a number at the missing cell (1, 1), though it is 0; and a blank at a cell with i + k above Y
    ∷ workbook 3 (cells payments_7) (with_kind 0 0 (cells adjustments_7)) (pos 0 ∷ pos 1 ∷ pos 1 ∷ []) 2 (pos 200 ∷ []) is refused_by 13 1 1
    ∷ complete 2 (cells payments_1) (with_kind 1 0 (cells adjustments_1)) is refused_by 13 1 2
    -- 12 is asked before 13, payments first within 13, and 13 before 5
    ∷ complete 2 (with_kind 0 0 (cells payments_1)) (with_float 2 one_half (cells adjustments_1)) is refused_by 12 2 1
    ∷ complete 2 (with_kind 2 0 (cells payments_1)) (with_kind 0 0 (cells adjustments_1)) is refused_by 13 2 1
    ∷ complete 2 (with_float 0 far_too_large (cells payments_1)) (with_kind 2 0 (cells adjustments_1)) is refused_by 13 2 1
    -- 4 is asked before 11
    ∷ workbook 2 (with_kind 0 2 (cells payments_1)) (cells adjustments_1) (pos 101 ∷ []) 1 [] is refused_by 4 1 1
    -- a kind list that is too short, and a list of pairs, of 11 floats
    ∷ complete 2 (record { kinds = 1 ∷ 1 ∷ []; numbers = map float_of payments_1 }) (cells adjustments_1) is refused_by 3 0 0
    ∷ with_lengths 3 11 (complete 2 (cells payments_1) (cells adjustments_1)) (refused_by 3 0 0)
    ∷ []

abbrev pub ExamplesHold : Type 0
ExamplesHold = Hold examples
