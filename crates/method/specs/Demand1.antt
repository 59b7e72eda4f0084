-- Demand 1: which calls are accepted, and by which question and at which place each other call is refused.
-- "Questions at the counter" of document 01 once more, as tables of plain statements with the numbers that it prints. Read it beside document 01.
-- What the cells hold, R, the sums and the movements are the definitions'; the ranges, the cells, the order, the numbers and the places are written out again.
use Rattle.std.specs.Prelude.{◌≡◌, List, [], ◌∷◌, ◌++◌, ℕ, ◌+◌, ◌*◌, ◌-◌, ◌/◌, ◌≤◌, ◌<◌, ℤ, pos, neg_ℤ, ◌+ℤ◌, ◌-ℤ◌, nat_abs, length, replicate, ◌≤ℤ◌, ◌<ℤ◌}
use Rattle.integers.specs.Fraction.{size}
use Rattle.method.specs.Verdicts.{Verdict, accepted}
use Rattle.method.specs.Triangle.{Triangle, n, Y, S, T, w}
use Rattle.method.specs.Outstandings.{R, sums}
use Rattle.method.specs.ProjectedYear.{Movement}
use Rattle.method.specs.RunOff.{movement, method}
use Rattle.method.specs.QuestionTable.{Question, DecidedBy, question_of_cells, question_once, FromTo, Cell}
use Rattle.method.specs.Answers.{Answer, answer, CellAnswer, single_cell, row_verdict}

-- ---- The questions of document 01

abbrev pub years_question : ℤ → Question
years_question years = question_once 1 (FromTo (pos 2) (pos 32) years)

-- a payment or an adjustment of cell (i, k), for the cut Y: in range, and 0 where missing
abbrev pub AmountRight : ℕ → ℕ → ℕ → ℤ → Type 0
AmountRight Y i k x = FromTo (neg_ℤ (pos 1_000_000_000)) (pos 1_000_000_000) x × (i + k ≤ Y → x ≡ pos 0)

-- a projected figure in millionths: at most 10,000,000,000 units in size
abbrev pub FigureRight : ℤ → Type 0
FigureRight x = size x ≤ℤ pos 10_000_000_000_000_000

abbrev pub FiguresRight : Movement → Type 0
FiguresRight m = FigureRight m.payment × FigureRight m.adjustment × FigureRight m.outstanding

-- questions 1 to 9 in the order in which they are asked, for what is said of the lists' lengths
-- An opening stands at i + k = Y, and the outstandings that are observed stand after it. `movement i (k - 1)` leads to year k.
abbrev pub triangle_questions : Triangle → Type 0 → List Question
triangle_questions t Lengths =
    years_question t.years
    ∷ question_once 2 (FromTo (pos 1) (t.years -ℤ pos 1) t.cut)
    ∷ question_once 3 Lengths
    ∷ question_of_cells 4 (Cell (n t)) (λ i k. FromTo (pos 0) (pos 100) (w t i k))
    ∷ question_of_cells 5 (Cell (n t + 1)) (λ i k. AmountRight (Y t) i k (S t i k))
    ∷ question_of_cells 5 (Cell (n t + 1)) (λ i k. AmountRight (Y t) i k (T t i k))
    ∷ question_of_cells 6 (λ i k. Cell (n t + 1) i k × (Y t ≤ i + k)) (λ i k. FromTo (pos 0) (pos 1_000_000_000) (R t i k))
    ∷ question_of_cells 7 (λ i k. Cell (n t) i k × (i + k ≤ Y t)) (λ i k. w t i k ≡ pos 0)
    ∷ question_of_cells 8 (λ i k. (i ≡ 0) × (1 ≤ k) × (k ≤ n t - 1)) (λ i k. pos 0 <ℤ (sums t k).D)
    ∷ question_of_cells 9 (λ i k. (i ≤ n t) × (k ≤ n t) × (n t + 1 < i + k)) (λ i k. FiguresRight (movement (method t) i (k - 1)))
    ∷ []

-- ---- The calls

-- the lists that are read
pub record InputLengthsRight (t : Triangle) : Type 0 where
  pub payments : length t.payments ≡ n t * (n t + 1) / 2
  pub adjustments : length t.adjustments ≡ n t * (n t + 1) / 2
  pub weights : length t.weights ≡ n t * (n t - 1) / 2
  pub openings : length t.openings ≡ Y t - 1

-- and the two that are lent to be written
pub record LengthsRight (t : Triangle) (future_room reserves_room : ℕ) : Type 0 where
  pub inputs : InputLengthsRight t
  pub future : future_room ≡ 3 * (n t * (n t - 1) / 2)
  pub reserves : reserves_room ≡ 3 * n t

-- The call that fills both answer lists: its verdict, and the lists as it left them.
pub record Demand1 (t : Triangle) (future_room reserves_room : ℕ) (v : Verdict) (future reserves : List ℤ) : Type 0 where
  pub decided : DecidedBy (triangle_questions t (LengthsRight t future_room reserves_room)) v
  -- after a refusal both lists, of whatever lengths, hold zeros throughout
  pub zeros : ¬ (v ≡ accepted) → (future ≡ replicate future_room (pos 0)) × (reserves ≡ replicate reserves_room (pos 0))

-- A single cell; it lends no answer lists, and question 10 is asked last.
abbrev pub unseen_question : ℤ → ℤ → ℤ → Question
unseen_question years i k = question_once 10 (FromTo (pos 2) years i × (k ≤ℤ years) × ((years +ℤ pos 1) <ℤ (i +ℤ k)))

abbrev pub cell_questions : Triangle → ℤ → ℤ → List Question
cell_questions t i k = triangle_questions t (InputLengthsRight t) ++ unseen_question t.years i k ∷ []

pub record Demand1OfCell (t : Triangle) (i k : ℤ) (c : CellAnswer) : Type 0 where
  pub decided : DecidedBy (cell_questions t i k) c.verdict
  -- a refused cell holds zeros
  pub zeros : ¬ (c.verdict ≡ accepted) → (c.payment ≡ pos 0) × (c.adjustment ≡ pos 0) × (c.outstanding ≡ pos 0)

-- A row; it lends n and two lists only.
abbrev pub row_questions : ℤ → List ℤ → List ℤ → ℤ → List Question
row_questions years payment_list adjustment_list i =
    let n : ℕ = nat_abs years in
    years_question years
    ∷ question_once 3 ((length payment_list ≡ n * (n + 1) / 2) × (length adjustment_list ≡ n * (n + 1) / 2))
    ∷ question_once 10 (FromTo (pos 1) years i)
    ∷ []

abbrev pub Demand1OfRow : ℤ → List ℤ → List ℤ → ℤ → Verdict → Type 0
Demand1OfRow years payment_list adjustment_list i = DecidedBy (row_questions years payment_list adjustment_list i)

-- Over every input. Proved as `demand_1`.
pub record Demand1OfEveryCall : Type 0 where
  pub both_lists : (t : Triangle) (future_room reserves_room : ℕ)
      → let a : Answer = answer t future_room reserves_room in Demand1 t future_room reserves_room a.verdict a.future a.reserves
  pub cell : (t : Triangle) (i k : ℤ) → Demand1OfCell t i k (single_cell t i k)
  pub row : (years : ℤ) (payment_list adjustment_list : List ℤ) (i : ℤ)
      → Demand1OfRow years payment_list adjustment_list i (row_verdict years payment_list adjustment_list i)
