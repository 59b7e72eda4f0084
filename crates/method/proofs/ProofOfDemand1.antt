-- Demand 1, proved for every call. Assumes nothing.
-- Each row of the table is what one question's verdict tells; the rows are then put together in their order.
use mathlib.Core.Path.{◌≡◌, refl, sym, ap, ◌∙◌, subst}
use mathlib.Core.Bool.{Bool}
use mathlib.Core.List.{List, ◌++◌}
use Prim.Native.Nat.{ℕ, suc, ◌+◌, ◌-◌, ◌≤◌, ◌<◌}
use native.Mathlib.Decide.{dec_le}
use native.Mathlib.Omega.{arith}
use lib.IntN.{pos, ◌-ℤ◌}
use Rattle.method.specs.Verdicts.{Verdict, ◌then◌}
use Rattle.method.specs.Triangle.{Triangle, n, Y, S, T, w}
use Rattle.method.specs.Tests.{years_in_range, cut_in_range}
use Rattle.method.specs.Outstandings.{R, sums}
use Rattle.method.specs.RunOff.{movement, year_before, method}
use Rattle.method.specs.Questions.{lengths_right, figures_in_range, question_1, question_2, question_3, question_4, question_5, question_6, question_7, question_8, question_9_of_year, question_9, list_questions, input_questions, observed_questions, questions, accident_year_in_range, question_10}
use Rattle.method.specs.Answers.{answer, cell_verdict, single_cell, both_lengths_right, row_verdict}
use Rattle.method.specs.QuestionTable.{Question, question_of_cells, DecidedBy}
use Rattle.method.specs.Demand1.{FiguresRight, triangle_questions, Demand1OfEveryCall}
use Rattle.method.specs.QuestionParts.{questions_5_to_9, questions_before_amounts, amount_questions}
use Rattle.method.proofs.WholeAnswers.{filled_verdict, filled_zeros, cell_figures_verdict, cell_figures_zeros}
use Rattle.method.proofs.FirstRefusal.{then_assoc, then_none}
use Rattle.method.proofs.QuestionFacts.{says_input_lengths, says_lengths, says_unseen}
use Rattle.method.proofs.Tests.{Says, says-<, says_eqb, says_and, says_from_to, says_weight, says_amount, says_outstanding, says_weight_allowed, says_figures}
use Rattle.method.proofs.QuestionTable.{told, told_where, Answers, asked_once, OneOf, asked_in_row, in_own_row, asked_row_by_row, asked_cell_by_cell, AnswersAll, none, last_asked, ◌and_then◌, decided}

-- ---- Questions 1 to 9, and what is asked after them

module _ (t : Triangle) where
  -- question 9 as it is asked in row i, at the year after k
  says_figures_of : (i k : ℕ) → Says (figures_in_range (movement (method t) i k)) (FiguresRight (movement (method t) i (suc k - 1)))
  says_figures_of i k =
      let e : k ≡ suc k - 1 = omega arith in
      subst (λ (x : ℕ). Says (figures_in_range (movement (method t) i x)) (FiguresRight (movement (method t) i (suc k - 1)))) (sym e)
      (says_figures (movement (method t) i (suc k - 1)))

  pub questions_in_two : (right : Bool) → questions t right ≡ (question_1 t.years then question_2 t.years t.cut then question_3 right then question_4 t then questions_5_to_9 t)
  unfolding questions observed_questions input_questions list_questions questions_5_to_9
  questions_in_two right = simp then_assoc

  -- question 9: row by row, and in row i the years after the last observed one
  question_9_answers : Answers (question_9 (method t)) (question_of_cells 9 (λ i k. (i ≤ n t) × (k ≤ n t) × (n t + 1 < i + k)) (λ i k. FiguresRight (movement (method t) i (k - 1))))
  unfolding question_9 question_9_of_year
  question_9_answers =
      asked_row_by_row _ (n t) (question_9_of_year (method t)) (λ i k x. (omega (arith, x.1, x.2), x.0))
      (λ i p l. asked_in_row _ i (i - 1) (λ j. suc (year_before (method t) i j)) (λ j. figures_in_range (movement (method t) i (year_before (method t) i j)))
      (λ a k x. (x.0, projected_year i k l x))
      (λ j j' h. omega arith)
      (λ j g h. in_own_row (told (l, omega (arith, l), omega (arith, l)) (says_figures_of i (year_before (method t) i j)))))
    where
      projected_year : (i k : ℕ) → i ≤ n t → {a : ℕ} → (a ≡ i) × ((a ≤ n t) × (k ≤ n t) × (n t + 1 < a + k)) → OneOf (i - 1) (λ j. suc (year_before (method t) i j)) k
      projected_year i k l (s, (c, d, e)) = record { j = i + k - (n t + 1); first = omega (arith, s, e); last = omega (arith, s, d, l); is = omega (arith, s, e, l) }

  pub asked_before_amounts : {right : Bool} {Lengths : Type 0} {later : Verdict} {qs : List Question} → Says right Lengths → AnswersAll later qs
      → AnswersAll (question_1 t.years then question_2 t.years t.cut then question_3 right then question_4 t then later) (questions_before_amounts t Lengths ++ qs)
  unfolding question_1 years_in_range question_2 cut_in_range question_3 question_4
  asked_before_amounts lengths rest =
      asked_once (says_from_to (pos 2) (pos 32) t.years)
      and_then asked_once (says_from_to (pos 1) (t.years -ℤ pos 1) t.cut)
      and_then asked_once lengths
      and_then asked_cell_by_cell 4 (n t - 1) _ (λ i k x. (x.0, x.1, omega (arith, x.2)))
      (λ i k x. told (x.0, x.1, omega (arith, x.0, x.1, x.2)) (says_weight (w t i k)))
      and_then rest

  pub asked_of_amounts : {later : Verdict} {qs : List Question} → AnswersAll later qs → AnswersAll (questions_5_to_9 t then later) (amount_questions t ++ qs)
  unfolding questions_5_to_9 question_5 question_6 question_7 question_8
  asked_of_amounts {later} {qs} rest = simp then_assoc (
      asked_cell_by_cell 5 (n t) _ (λ i k x. x) (λ i k x. told x (says_amount (Y t) i k (S t i k)))
      and_then asked_cell_by_cell 5 (n t) _ (λ i k x. x) (λ i k x. told x (says_amount (Y t) i k (T t i k)))
      and_then asked_cell_by_cell 6 (n t) _ (λ i k x. x.0) (λ i k x. told_where x (dec_le (Y t) (i + k)) (says_outstanding (Y t) i k (R t i k)))
      and_then asked_cell_by_cell 7 (n t - 1) _ (λ i k x. (x.0.0, x.0.1, omega (arith, x.0.2)))
      (λ i k x. told_where (x.0, x.1, omega (arith, x.0, x.1, x.2)) (dec_le (i + k) (Y t)) (says_weight_allowed (Y t) i k (w t i k)))
      and_then asked_in_row _ 0 (n t - 1) (λ j. j) _ (λ a k x. (x.0, record { j = k; first = x.1; last = x.2; is = refl }))
      (λ j j' l. l) (λ j p l. told (refl, p, l) (says-< (pos 0) (sums t j).D))
      and_then question_9_answers
      and_then rest)

  asked_in_order : {right : Bool} {Lengths : Type 0} {later : Verdict} {qs : List Question} → Says right Lengths → AnswersAll later qs
      → AnswersAll (questions t right then later) (triangle_questions t Lengths ++ qs)
  asked_in_order {right} {Lengths} {later} {qs} lengths rest =
      subst (λ (v : Verdict). AnswersAll v (triangle_questions t Lengths ++ qs)) (sym in_order) (asked_before_amounts lengths (asked_of_amounts rest))
    where
      in_order : (questions t right then later)
          ≡ (question_1 t.years then question_2 t.years t.cut then question_3 right then question_4 t then questions_5_to_9 t then later)
      in_order = ap (λ (v : Verdict). v then later) (questions_in_two right) ∙ simp then_assoc

-- ---- The calls

pub demand_1 : Demand1OfEveryCall
unfolding answer single_cell cell_verdict row_verdict both_lengths_right question_1 years_in_range question_3 question_10 accident_year_in_range
demand_1 = record {
  both_lists = λ t f r.
      let v : Verdict = questions t (lengths_right t f r) in
      record {
        decided = decided_as (then_none v ∙ sym (filled_verdict (method t) f r v)) (asked_in_order t (says_lengths t f r) none);
        zeros = filled_zeros (method t) f r v;
      };
  cell = λ t i k. record {
    decided = decided_as (sym (cell_figures_verdict t i k (cell_verdict t i k)))
        (asked_in_order t (says_input_lengths t) (last_asked (asked_once (says_unseen t.years i k))));
    zeros = cell_figures_zeros t i k (cell_verdict t i k);
  };
  row = λ years payment_list adjustment_list i. decided_as refl
      (asked_once (says_from_to (pos 2) (pos 32) years)
      and_then asked_once (says_and (says_eqb _ _) (says_eqb _ _))
      and_then last_asked (asked_once (says_from_to (pos 1) years i)));
}
  where
    decided_as : {v x : Verdict} {qs : List Question} → v ≡ x → AnswersAll v qs → DecidedBy qs x
    decided_as {v} {x} {qs} e a = subst (DecidedBy qs) e (decided a)
