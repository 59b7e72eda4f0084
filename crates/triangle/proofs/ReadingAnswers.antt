-- Reading a triangle: an answer that is a refusal, and what a triangle which passed questions 1 to 7 shows.
use Rattle.std.proofs.Common.{◌≡◌, true, sym, ap, ◌∙◌, Option, Result, Ok, Err}
use Rattle.std.specs.Result.{IsErrAnd}
use Rattle.method.specs.Triangle.{Triangle}
use Rattle.method.specs.Verdicts.{accepted}
use Rattle.method.specs.Questions.{input_questions, observed_questions}
use Rattle.method.proofs.QuestionFacts.{Observed, observed_triangle, question_3_said_yes}
use Rattle.lent.specs.declared.AnswerLengths.{AnswerLengths}
use Rattle.lent.specs.Triangles.{lists_right}
use Rattle.verdicts.specs.declared.verdict.Refusal.{Refusal}
use Rattle.verdicts.specs.Verdicts.{verdict_of}
use Rattle.questions.proofs.Counted.{lists_have_lengths, inputs_right}
use Rattle.ratios.specs.declared.Development.{Development}
use Rattle.ratios.specs.Ratios.{Readable}
use Rattle.triangle.specs.Reading.{ReadingOf}

module _ (t : Triangle) (answers : Option AnswerLengths) where
  pub refused_reading : (r : Result Development Refusal) (P : Refusal → Type 0) → IsErrAnd r P → verdict_of r ≡ observed_questions t (lists_right t answers) → ReadingOf t answers r
  refused_reading (Ok d) P h e = absurd h
  refused_reading (Err x) P h e = record { verdict_is = e; development_is = tt }

  -- where questions 1 to 7 accepted
  module _ (e : input_questions t (lists_right t answers) ≡ accepted) where
    pub observed : Observed t
    observed = observed_triangle t (lists_right t answers) (lists_have_lengths t answers) e

    pub readable : Readable t
    readable =
        let yes : lists_right t answers ≡ true = question_3_said_yes t (lists_right t answers) e in
        record { cut = t.cut; inputs_right = inputs_right t answers yes; passed = ap (input_questions t) (sym yes) ∙ e }
