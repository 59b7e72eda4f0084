-- Demand 1 of the call with a workbook's cells, proved for every workbook. Assumes nothing.
-- Each new row of the table is what one question's verdict tells of one list; document 01's rows stand before and after them.
use mathlib.Core.Path.{◌≡◌, sym, ◌∙◌, subst}
use mathlib.Core.Bool.{Bool}
use Prim.Native.Nat.{ℕ}
use Rattle.method.specs.Verdicts.{Verdict, accepted, ◌then◌}
use Rattle.method.specs.RunOff.{method}
use Rattle.method.specs.Questions.{question_1, question_2, question_3, question_4}
use Rattle.method.specs.QuestionParts.{questions_5_to_9}
use Rattle.method.specs.QuestionTable.{DecidedBy}
use Rattle.method.proofs.FirstRefusal.{then_assoc, then_none}
use Rattle.method.proofs.Tests.{says_leb}
use Rattle.method.proofs.QuestionTable.{told, told_where, Answers, asked_cell_by_cell, none, ◌and_then◌, decided}
use Rattle.method.proofs.ProofOfDemand1.{asked_before_amounts, asked_of_amounts}
use Rattle.workbook.specs.Workbook.{CellList, Workbook, kind_at, number_at, converted}
use Rattle.workbook.specs.Questions.{kinds_known, numbers_whole, blanks_missing, n, Y, question_11, question_12, question_13, workbook_lengths_right, workbook_questions}
use Rattle.workbook.specs.Answers.{workbook_answer}
use Rattle.workbook.specs.Demand1.{kind_question, number_question, blank_question, WorkbookLengthsRight, workbook_table, Demand1OfEveryWorkbook}
use Rattle.workbook.proofs.CellTests.{number_or_none, says_whole_or_blank, says_blank_where_missing, says_workbook_lengths}
use Rattle.workbook.proofs.WholeAnswers.{filled_in_pairs_verdict, filled_in_pairs_zeros}

-- ---- One list of cells

module _ (n Y : ℕ) (c : CellList) where
  kind_answers : Answers (kinds_known n c) (kind_question n c)
  unfolding kinds_known
  kind_answers = asked_cell_by_cell 11 n _ (λ i k x. x) (λ i k x. told x (says_leb (kind_at n c i k) 1))

  number_answers : Answers (numbers_whole n c) (number_question n c)
  unfolding numbers_whole
  number_answers =
      asked_cell_by_cell 12 n _ (λ i k x. x.0)
      (λ i k x. told_where x (number_or_none (kind_at n c i k)) (says_whole_or_blank (kind_at n c i k) (number_at n c i k)))

  blank_answers : Answers (blanks_missing n Y c) (blank_question n Y c)
  unfolding blanks_missing
  blank_answers = asked_cell_by_cell 13 n _ (λ i k x. x) (λ i k x. told x (says_blank_where_missing Y i k (kind_at n c i k) (number_at n c i k)))

-- ---- The call

in_order : (b : Workbook) (right : Bool)
    → (question_1 b.years then question_2 b.years b.cut then question_3 right then question_4 (converted b)
    then kinds_known (n b) b.payments then kinds_known (n b) b.adjustments
    then numbers_whole (n b) b.payments then numbers_whole (n b) b.adjustments
    then blanks_missing (n b) (Y b) b.payments then blanks_missing (n b) (Y b) b.adjustments
    then questions_5_to_9 (converted b) then accepted)
    ≡ workbook_questions b right
unfolding workbook_questions question_11 question_12 question_13
in_order b right = simp (then_assoc, then_none)

pub workbook_demand_1 : Demand1OfEveryWorkbook
unfolding workbook_answer
workbook_demand_1 b f p =
    let v : Verdict = workbook_questions b (workbook_lengths_right b f p) in
    record {
      decided = subst (DecidedBy (workbook_table b (WorkbookLengthsRight b f p))) (in_order b (workbook_lengths_right b f p) ∙ sym (filled_in_pairs_verdict (method (converted b)) f p v))
          (decided (asked_before_amounts (converted b) (says_workbook_lengths b f p)
          (kind_answers (n b) (Y b) b.payments and_then kind_answers (n b) (Y b) b.adjustments
          and_then number_answers (n b) (Y b) b.payments and_then number_answers (n b) (Y b) b.adjustments
          and_then blank_answers (n b) (Y b) b.payments and_then blank_answers (n b) (Y b) b.adjustments
          and_then asked_of_amounts (converted b) none)));
      zeros = filled_in_pairs_zeros (method (converted b)) f p v;
    }
