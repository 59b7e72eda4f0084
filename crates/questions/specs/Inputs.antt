-- The lengths of a triangle's lists, what questions 1 to 3 leave of it, and questions of it that go together.
use Rattle.std.specs.Prelude.{◌≡◌, true, Option, ◌≤◌, pos, length}
use Rattle.method.specs.Limits.{most_accident_years}
use Rattle.method.specs.Triangle.{Triangle, n, Y}
use Rattle.method.specs.Verdicts.{Verdict, ◌then◌}
use Rattle.method.specs.Questions.{input_lengths_right, question_5, question_6, question_7}
use Rattle.lent.specs.declared.AnswerLengths.{AnswerLengths}
use Rattle.list_lengths.specs.declared.ListLengths.{ListLengths}

-- that a call on it lends
abbrev pub lengths_of : Triangle → Option AnswerLengths → ListLengths
lengths_of t answers = record {
  payments = length t.payments;
  adjustments = length t.adjustments;
  weights = length t.weights;
  openings = length t.openings;
  answers = answers;
}

-- what questions 1 to 3 leave of a triangle, where n may be 1 too: n and Y as counts, and every list of its length
pub record Measured (t : Triangle) : Type 0 where
  pub years_counted : t.years ≡ pos (n t)
  pub cut_counted : t.cut ≡ pos (Y t)
  pub first : 1 ≤ n t
  pub most : n t ≤ most_accident_years
  pub lengths : input_lengths_right t ≡ true

abbrev pub questions_5_to_7 : Triangle → Verdict
questions_5_to_7 t = question_5 t then question_6 t then question_7 t
