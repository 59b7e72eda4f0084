-- The questions of document 01 in two parts, between which a request of document 02 may put questions of its own.
-- Laws `questions_in_two`, `asked_before_amounts` and `asked_of_amounts` in proofs/ProofOfDemand1.antt.
use Rattle.std.specs.Prelude.{List, [], ◌∷◌, ◌+◌, ◌-◌, ◌≤◌, ◌<◌, ◌≡◌, pos, ◌-ℤ◌, ◌<ℤ◌}
use Rattle.method.specs.Verdicts.{Verdict, ◌then◌}
use Rattle.method.specs.Triangle.{Triangle, n, Y, S, T, w}
use Rattle.method.specs.Outstandings.{R, sums}
use Rattle.method.specs.RunOff.{movement, method}
use Rattle.method.specs.Questions.{question_5, question_6, question_7, question_8, question_9}
use Rattle.method.specs.QuestionTable.{Question, question_of_cells, question_once, FromTo, Cell}
use Rattle.method.specs.Demand1.{years_question, AmountRight, FiguresRight}

-- 5 to 9
unfoldable pub questions_5_to_9 : Triangle → Verdict
questions_5_to_9 t = (question_5 t then question_6 t then question_7 t) then question_8 t then question_9 (method t)

-- questions 1 to 4 in the order in which they are asked, for what is said of the lists' lengths
abbrev pub questions_before_amounts : Triangle → Type 0 → List Question
questions_before_amounts t Lengths =
    years_question t.years
    ∷ question_once 2 (FromTo (pos 1) (t.years -ℤ pos 1) t.cut)
    ∷ question_once 3 Lengths
    ∷ question_of_cells 4 (Cell (n t)) (λ i k. FromTo (pos 0) (pos 100) (w t i k))
    ∷ []

-- questions 5 to 9, of the amounts and of what follows from them
-- An opening stands at i + k = Y, and the outstandings that are observed stand after it. `movement i (k - 1)` leads to year k.
abbrev pub amount_questions : Triangle → List Question
amount_questions t =
    question_of_cells 5 (Cell (n t + 1)) (λ i k. AmountRight (Y t) i k (S t i k))
    ∷ question_of_cells 5 (Cell (n t + 1)) (λ i k. AmountRight (Y t) i k (T t i k))
    ∷ question_of_cells 6 (λ i k. Cell (n t + 1) i k × (Y t ≤ i + k)) (λ i k. FromTo (pos 0) (pos 1_000_000_000) (R t i k))
    ∷ question_of_cells 7 (λ i k. Cell (n t) i k × (i + k ≤ Y t)) (λ i k. w t i k ≡ pos 0)
    ∷ question_of_cells 8 (λ i k. (i ≡ 0) × (1 ≤ k) × (k ≤ n t - 1)) (λ i k. pos 0 <ℤ (sums t k).D)
    ∷ question_of_cells 9 (λ i k. (i ≤ n t) × (k ≤ n t) × (n t + 1 < i + k)) (λ i k. FiguresRight (movement (method t) i (k - 1)))
    ∷ []
