-- Questions 1 to 3 of n, Y and the lengths of the lists that a call lends.
use Rattle.std.specs.Prelude.{Bool, true, ◌&&◌, Option, Some, None, ℕ, eqb, ℤ, nat_abs}
use Rattle.method.specs.Triangle.{amounts_length, weights_length, openings_length, future_length, reserves_length}
use Rattle.method.specs.Verdicts.{Verdict, ◌then◌}
use Rattle.method.specs.Questions.{question_1, question_2, question_3}
use Rattle.lent.specs.declared.AnswerLengths.{AnswerLengths}
use Rattle.list_lengths.specs.declared.ListLengths.{ListLengths}

-- Whether the answer lists have their lengths, for n years, or none are lent
abbrev pub answers_right : ℕ → Option AnswerLengths → Bool
answers_right n None = true
answers_right n (Some lent) = eqb lent.future (future_length n) && eqb lent.reserves (reserves_length n)

-- The answer to question 3, for n years and the cut Y. Of a triangle's lists it is document 01's. Law: `lists_right_is` in crates/questions/proofs/Counted.antt.
unfoldable pub list_lengths_right : ℕ → ℕ → ListLengths → Bool
list_lengths_right n Y l =
    eqb l.payments (amounts_length n)
    && eqb l.adjustments (amounts_length n)
    && eqb l.weights (weights_length n)
    && eqb l.openings (openings_length Y)
    && answers_right n l.answers

abbrev pub questions_1_to_3 : ℤ → ℤ → ListLengths → Verdict
questions_1_to_3 years cut l = question_1 years then question_2 years cut then question_3 (list_lengths_right (nat_abs years) (nat_abs cut) l)
