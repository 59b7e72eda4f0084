-- What the converted triangle holds, cell by cell; and Workbook-agrees: an accepted workbook is answered as the call that fills both lists answers
-- its converted triangle, so demands 2 and 3 bind it too.
use Rattle.std.specs.Prelude.{◌≡◌, List, [], ◌∷◌, ℕ, ◌+◌, ◌*◌, ◌<◌, ℤ, pos, ◌+ℤ◌, ◌*ℤ◌, Float, length, get_or, ◌≤ℤ◌, ◌<ℤ◌}
use Rattle.floats.specs.WholeNumbers.{the, whole_number, plus_zero, minus_zero}
use Rattle.method.specs.Limits.{one_unit}
use Rattle.method.specs.Triangle.{S, T}
use Rattle.method.specs.RunOff.{method}
use Rattle.method.specs.Verdicts.{accepted}
use Rattle.method.specs.Demand2.{Demand2}
use Rattle.method.specs.Demand3.{Demand3, filling_call}
use Rattle.workbook.specs.Cells.{amount_of}
use Rattle.workbook.specs.Workbook.{Workbook, kind_at, number_at, converted, pairs_length}
use Rattle.workbook.specs.Questions.{n}
use Rattle.workbook.specs.Answers.{WorkbookAnswer, workbook_answer}
use Rattle.workbook.specs.Demand1.{WorkbookLengthsRight}

-- What a kind byte and the float beside it are converted to: "A blank … becomes 0", "A whole number is converted without loss, and minus zero is 0."
pub record CellConverted (kind : ℕ) (x : Float) (amount : ℤ) : Type 0 where
  pub of_blank : kind ≡ 0 → amount ≡ pos 0
  pub of_number : ¬ (kind ≡ 0) → (z : ℤ) → whole_number x ≡ the z → amount ≡ z

-- so of every cell of the converted triangle
pub record ConvertedByCell (b : Workbook) : Type 0 where
  pub payment : (i k : ℕ) → CellConverted (kind_at (n b) b.payments i k) (number_at (n b) b.payments i k) (S (converted b) i k)
  pub adjustment : (i k : ℕ) → CellConverted (kind_at (n b) b.adjustments i k) (number_at (n b) b.adjustments i k) (T (converted b) i k)

-- Two floats are the pair of an amount in millionths: both are exactly whole numbers, and they make the amount. Only one pair of whole numbers does.
pub record PairOf (amount : ℤ) (units millionths : Float) : Type 0 where
  pub whole_units : ℤ
  pub remaining_millionths : ℤ
  pub units_exact : whole_number units ≡ the whole_units
  pub millionths_exact : whole_number millionths ≡ the remaining_millionths
  pub together : amount ≡ whole_units *ℤ one_unit +ℤ remaining_millionths
  pub at_least_0 : pos 0 ≤ℤ remaining_millionths
  pub at_most_999999 : remaining_millionths <ℤ one_unit
  pub units_no_minus_zero : ¬ (units ≡ minus_zero)
  pub millionths_no_minus_zero : ¬ (millionths ≡ minus_zero)

-- the amounts that a list of pairs tells, whole units × one unit + remaining millionths
unfoldable pub amounts_told : List Float → List ℤ
amounts_told [] = []
amounts_told (x ∷ []) = []
amounts_told (units ∷ millionths ∷ pairs) = (amount_of (whole_number units) *ℤ one_unit +ℤ amount_of (whole_number millionths)) ∷ amounts_told pairs

-- of the future list and the pairs that a call wrote
pub record WorkbookAgrees (b : Workbook) (future : List ℤ) (pairs : List Float) : Type 0 where
  pub triangle_accepted : (filling_call (converted b)).verdict ≡ accepted
  pub same_future : future ≡ (filling_call (converted b)).future
  -- "in 6 × n floats that replace the reserve list and keep its order": pair j is that of number j of the reserve list
  pub pairs_whole : length pairs ≡ pairs_length (n b)
  pub each_pair : (j : ℕ) → j < length (filling_call (converted b)).reserves
      → PairOf (get_or (filling_call (converted b)).reserves j (pos 0)) (get_or pairs (2 * j) plus_zero) (get_or pairs (2 * j + 1) plus_zero)
  -- so the pairs tell the reserve list, and the demands are met by the two lists that were written
  pub same_reserves : amounts_told pairs ≡ (filling_call (converted b)).reserves
  pub demand_2 : Demand2 (converted b) future (amounts_told pairs)
  pub demand_3 : Demand3 (method (converted b)) future (amounts_told pairs)

-- Over every workbook whose lists have their lengths. Proved as `converted_by_cell`.
abbrev pub ConvertedCellByCell : Type 0
ConvertedCellByCell = (b : Workbook) (future_room pairs_room : ℕ) → WorkbookLengthsRight b future_room pairs_room → ConvertedByCell b

-- Over every workbook that is accepted. Proved as `workbook_agrees`.
abbrev pub EveryWorkbookAgrees : Type 0
EveryWorkbookAgrees =
    (b : Workbook) (future_room pairs_room : ℕ) → let a : WorkbookAnswer = workbook_answer b future_room pairs_room in
    a.verdict ≡ accepted → WorkbookAgrees b a.future a.pairs
