-- What a call with a workbook answers.
use Rattle.std.specs.Prelude.{◌≡◌, Bool, ◌&&◌, List, ℕ, eqb, ℤ, Float}
use Rattle.method.specs.Triangle.{Triangle, n, amounts_length, future_length, reserves_length}
use Rattle.method.specs.RunOff.{method}
use Rattle.method.specs.RunOff as meaning
use Rattle.method.specs.Verdicts.{Verdict, accepted, ◌then◌}
use Rattle.method.specs.Questions.{question_1, question_2, question_3, question_4, questions, lengths_right}
use Rattle.workbook.specs.Workbook.{Workbook, converted, pairs_length}
use Rattle.workbook.specs.Pairs.{pairs}
use Rattle.workbook.specs.Questions.{workbook_lengths_right, workbook_questions}
use Rattle.workbook.specs.Answers.{WorkbookAnswer}
use Rattle.workbook_reserve.specs.declared.lengths.OtherLengths.{OtherLengths}

-- what the call gives back, and what it leaves in the lists
abbrev pub workbook_answer_of : Verdict → List ℤ → List Float → WorkbookAnswer
workbook_answer_of verdict future pairs = record { verdict = verdict; future = future; pairs = pairs }

-- ---- Inside the call

-- the lists of which question 3 is asked besides those that document 01's filling call reads
abbrev pub other_lengths_right : ℕ → OtherLengths → Bool
other_lengths_right n l =
    eqb l.payment_kinds (amounts_length n) && eqb l.adjustment_kinds (amounts_length n)
    && eqb l.future (future_length n) && eqb l.pairs (pairs_length n)

abbrev pub questions_1_to_4 : Workbook → ℕ → ℕ → Verdict
questions_1_to_4 b future_room pairs_room =
    question_1 b.years then question_2 b.years b.cut then question_3 (workbook_lengths_right b future_room pairs_room) then question_4 (converted b)

-- a triangle's future list filled, and its reserves as pairs, where all questions accept; what a refusal leaves is cleared afterwards
pub record FilledInPairs (t : Triangle) (future_room : ℕ) (v : Verdict) (future : List ℤ) (list : List Float) : Type 0 where
  pub verdict_is : v ≡ questions t (lengths_right t future_room (reserves_length (n t)))
  pub future_is : v ≡ accepted → future ≡ meaning.future (method t)
  pub pairs_are : v ≡ accepted → list ≡ pairs (meaning.reserves (method t))

-- the same of a workbook
pub record WorkbookFilled (b : Workbook) (future_room pairs_room : ℕ) (v : Verdict) (future : List ℤ) (list : List Float) : Type 0 where
  pub verdict_is : v ≡ workbook_questions b (workbook_lengths_right b future_room pairs_room)
  pub future_is : v ≡ accepted → future ≡ meaning.future (method (converted b))
  pub pairs_are : v ≡ accepted → list ≡ pairs (meaning.reserves (method (converted b)))
