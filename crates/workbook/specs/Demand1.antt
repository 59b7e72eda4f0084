-- Demand 1 of the call with a workbook's cells: document 01's table of questions with ticket 1's new numbers in their place.
-- Read it beside document 02; as in document 01's table, the ranges, the cells, the order, the numbers and the places are written out again.
use Rattle.std.specs.Prelude.{◌≡◌, ◌↔◌, List, ◌∷◌, ◌++◌, ℕ, ◌+◌, ◌*◌, ◌-◌, ◌/◌, ◌≤◌, ℤ, pos, Float, length, replicate}
use Rattle.floats.specs.WholeNumbers.{the, whole_number, plus_zero}
use Rattle.method.specs.Verdicts.{Verdict, accepted}
use Rattle.method.specs.QuestionTable.{Question, DecidedBy, question_of_cells, Cell}
use Rattle.method.specs.QuestionParts.{questions_before_amounts, amount_questions}
use Rattle.workbook.specs.Workbook.{CellList, Workbook, kind_at, number_at, converted}
use Rattle.workbook.specs.Questions.{n, Y}
use Rattle.workbook.specs.Answers.{WorkbookAnswer, workbook_answer}

-- x is finite and whole
pub record Whole (x : Float) : Type 0 where
  pub value : ℤ
  pub is : whole_number x ≡ the value

-- ---- Questions 11, 12 and 13, each of one list of cells

-- a kind byte is 0 or 1
abbrev pub kind_question : ℕ → CellList → Question
kind_question n c = question_of_cells 11 (Cell (n + 1)) (λ i k. kind_at n c i k ≤ 1)

-- a number is whole; where the kind byte is 0 there is no number
abbrev pub number_question : ℕ → CellList → Question
number_question n c = question_of_cells 12 (λ i k. Cell (n + 1) i k × (¬ (kind_at n c i k ≡ 0))) (λ i k. Whole (number_at n c i k))

-- blank exactly where missing
abbrev pub blank_question : ℕ → ℕ → CellList → Question
blank_question n Y c = question_of_cells 13 (Cell (n + 1)) (λ i k. (kind_at n c i k ≡ 0) ↔ (i + k ≤ Y))

-- ---- The call

pub record WorkbookLengthsRight (b : Workbook) (future_room pairs_room : ℕ) : Type 0 where
  pub payment_kinds : length b.payments.kinds ≡ n b * (n b + 1) / 2
  pub payments : length b.payments.numbers ≡ n b * (n b + 1) / 2
  pub adjustment_kinds : length b.adjustments.kinds ≡ n b * (n b + 1) / 2
  pub adjustments : length b.adjustments.numbers ≡ n b * (n b + 1) / 2
  pub weights : length b.weights ≡ n b * (n b - 1) / 2
  pub openings : length b.openings ≡ Y b - 1
  pub future : future_room ≡ 3 * (n b * (n b - 1) / 2)
  pub pairs : pairs_room ≡ 6 * n b

-- payments first within each question
abbrev pub workbook_table : Workbook → Type 0 → List Question
workbook_table b Lengths =
    questions_before_amounts (converted b) Lengths
    ++ kind_question (n b) b.payments ∷ kind_question (n b) b.adjustments
    ∷ number_question (n b) b.payments ∷ number_question (n b) b.adjustments
    ∷ blank_question (n b) (Y b) b.payments ∷ blank_question (n b) (Y b) b.adjustments
    ∷ amount_questions (converted b)

pub record Demand1OfWorkbook (b : Workbook) (future_room pairs_room : ℕ) (v : Verdict) (future : List ℤ) (pairs : List Float) : Type 0 where
  pub decided : DecidedBy (workbook_table b (WorkbookLengthsRight b future_room pairs_room)) v
  -- after a refusal both lists, of whatever lengths, hold zeros throughout, and no minus zero
  pub zeros : ¬ (v ≡ accepted) → (future ≡ replicate future_room (pos 0)) × (pairs ≡ replicate pairs_room plus_zero)

-- Over every input. Proved as `workbook_demand_1`.
abbrev pub Demand1OfEveryWorkbook : Type 0
Demand1OfEveryWorkbook =
    (b : Workbook) (future_room pairs_room : ℕ)
    → let a : WorkbookAnswer = workbook_answer b future_room pairs_room in Demand1OfWorkbook b future_room pairs_room a.verdict a.future a.pairs
