-- Question 3 by lengths is document 01's, and the triangle of a call once questions 1 to 3 have accepted: n and Y as counts, and every list of its length.
use mathlib.Core.Path.{◌≡◌, sym, ap₂, ◌∙◌}
use mathlib.Core.Bool.{true, and_assoc}
use mathlib.Core.Bool as bool
use Rattle.std.specs.Prelude.{Option, Some, None}
use lib.Dec.{eqb}
use native.Mathlib.Omega.{arith}
use lib.IntN.{ℤ, pos, nat_abs}
use Rattle.method.specs.Triangle.{Triangle, n, Y, future_length, reserves_length}
use Rattle.method.specs.Verdicts.{accepted, ◌then◌}
use Rattle.method.specs.Questions.{input_lengths_right, lengths_right, list_questions, input_questions}
use Rattle.method.specs.Demand1.{InputLengthsRight}
use Rattle.method.proofs.Tests.{and-true}
use Rattle.method.proofs.FirstRefusal.{then_accepted, then_assoc}
use Rattle.method.proofs.QuestionFacts.{YearsInRange, CutInRange, years_accepted, cut_accepted, lengths_accepted, says_input_lengths}
use Rattle.lent.specs.declared.AnswerLengths.{AnswerLengths}
use Rattle.lent.specs.Triangles.{counted, lists_right}
use Rattle.list_lengths.specs.declared.ListLengths.{ListLengths}
use Rattle.list_lengths.specs.Lengths.{answers_right, list_lengths_right, questions_1_to_3}
use Rattle.questions.specs.Inputs.{Measured, lengths_of}

-- ---- Question 3 of a triangle's lists

-- by their lengths it is document 01's
pub lists_right_is : (t : Triangle) (answers : Option AnswerLengths) → list_lengths_right (n t) (Y t) (lengths_of t answers) ≡ lists_right t answers
unfolding list_lengths_right input_lengths_right lengths_right
lists_right_is t None = bool.and-true (input_lengths_right t)
lists_right_is t (Some lent) =
    sym (and_assoc (input_lengths_right t) (eqb lent.future (future_length (n t))) (eqb lent.reserves (reserves_length (n t))))

-- where it was answered yes, whatever the answer lists
pub inputs_right : (t : Triangle) (answers : Option AnswerLengths) → lists_right t answers ≡ true → input_lengths_right t ≡ true
unfolding list_lengths_right input_lengths_right
inputs_right t answers e = (and-true (input_lengths_right t) (answers_right (n t) answers) (lists_right_is t answers ∙ e)).0

pub lists_have_lengths : (t : Triangle) (answers : Option AnswerLengths) → lists_right t answers ≡ true → InputLengthsRight t
lists_have_lengths t answers e = (says_input_lengths t).sound (inputs_right t answers e)

-- ---- Questions 1 to 3, and then those of the lists

abbrev with_years_and_cut : Triangle → ℤ → ℤ → Triangle
with_years_and_cut t years cut = record t { years = years; cut = cut }

pub counted_is : (t : Triangle) → t.years ≡ pos (n t) → t.cut ≡ pos (Y t)
    → t ≡ counted (n t) (Y t) t.payments t.adjustments t.weights t.openings
counted_is t = ap₂ (with_years_and_cut t)

pub input_questions_is : (t : Triangle) (answers : Option AnswerLengths)
    → (questions_1_to_3 t.years t.cut (lengths_of t answers) then list_questions t) ≡ input_questions t (lists_right t answers)
unfolding input_questions
input_questions_is t answers = simp (then_assoc, lists_right_is t answers)

-- where they accepted
module _ (years cut : ℤ) (l : ListLengths) (e : questions_1_to_3 years cut l ≡ accepted) where
  pub years_right : YearsInRange years
  years_right = years_accepted years (then_accepted _ _ e).0

  pub cut_right : CutInRange cut (nat_abs years)
  cut_right = cut_accepted years cut years_right (then_accepted _ _ (then_accepted _ _ e).1).0

pub measured : (t : Triangle) (answers : Option AnswerLengths) → questions_1_to_3 t.years t.cut (lengths_of t answers) ≡ accepted → Measured t
measured t answers e =
    let y : YearsInRange t.years = years_right _ _ _ e in
    record {
      years_counted = y.counted;
      cut_counted = (cut_right _ _ _ e).counted;
      first = omega (arith, y.fewest);
      most = y.most;
      lengths = inputs_right t answers (sym (lists_right_is t answers) ∙ lengths_accepted _ (then_accepted _ _ (then_accepted _ _ e).1).1);
    }
