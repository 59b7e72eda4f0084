-- What reading a triangle answers.
use Rattle.std.specs.Prelude.{◌≡◌, List, ℕ, ◌-◌, pos, get_or, Option, Result, Ok, Err, IfOk}
use Rattle.std.specs.Int.Signed.{lt_z}
use Rattle.method.specs.Triangle.{Triangle}
use Rattle.method.specs.Verdicts.{Verdict, at, ask, first_to}
use Rattle.method.specs.Questions.{observed_questions}
use Rattle.lent.specs.declared.AnswerLengths.{AnswerLengths}
use Rattle.lent.specs.Triangles.{lists_right}
use Rattle.verdicts.specs.declared.verdict.Refusal.{Refusal}
use Rattle.verdicts.specs.Verdicts.{verdict_of}
use Rattle.ratios.specs.declared.Development.{Development}
use Rattle.ratios.specs.declared.Sums.{Sums}
use Rattle.ratios.specs.Ratios.{no_sums, DevelopmentOf}

-- the whole answer: the verdict, and what is read of an accepted triangle, at every place of both lists
pub record ReadingOf (t : Triangle) (answers : Option AnswerLengths) (r : Result Development Refusal) : Type 0 where
  pub verdict_is : verdict_of r ≡ observed_questions t (lists_right t answers)
  pub development_is : IfOk r (λ d. DevelopmentOf t d.ratios d.outstandings)

-- the same in a development that is lent: what was read, or what stood there before and the refusal
abbrev pub ReadInto : Triangle → Option AnswerLengths → Development → Result (Unit {0}) Refusal → Development → Type 0
ReadInto t answers before (Ok _) after = ReadingOf t answers (Ok after)
ReadInto t answers before (Err refusal) after = ReadingOf t answers (Err refusal) × (after ≡ before)

-- ---- Question 8 of the ratios of development years 1 to n − 1

unfoldable pub exposure_of_year : List Sums → ℕ → Verdict
exposure_of_year ratios k = ask (lt_z (pos 0) (get_or ratios (k - 1) no_sums).exposure) 8 (at 0 k)

unfoldable pub exposures : ℕ → List Sums → Verdict
exposures n ratios = first_to (n - 1) (exposure_of_year ratios)
