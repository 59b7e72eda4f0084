-- A triangle that is lent, as document 01's.
use Rattle.std.specs.Prelude.{Bool, Option, Some, None, List, ℕ, ℤ, pos}
use Rattle.method.specs.Triangle as meaning
use Rattle.method.specs.Questions.{input_lengths_right, lengths_right}
use Rattle.lent.specs.declared.Triangle.{Triangle}
use Rattle.lent.specs.declared.AnswerLengths.{AnswerLengths}

abbrev pub triangle_of : Triangle → meaning.Triangle
triangle_of t = record {
  years = t.years;
  cut = t.cut;
  payments = t.payments.now;
  adjustments = t.adjustments.now;
  weights = t.weights.now;
  openings = t.openings.now;
}

-- with n and Y that questions 1 and 2 have accepted, as counts
abbrev pub counted : ℕ → ℕ → List ℤ → List ℤ → List ℤ → List ℤ → meaning.Triangle
counted n cut payments adjustments weights openings = record {
  years = pos n;
  cut = pos cut;
  payments = payments;
  adjustments = adjustments;
  weights = weights;
  openings = openings;
}

-- document 01's answer to question 3, of a call that lends answer lists of these lengths, or none
abbrev pub lists_right : meaning.Triangle → Option AnswerLengths → Bool
lists_right t None = input_lengths_right t
lists_right t (Some answers) = lengths_right t answers.future answers.reserves
