-- Questions 1 to 7, the ratios, question 8.
use Rattle.std.proofs.Common.{rules, ◌≡◌, sym, ap, ◌∙◌}
use Rattle.integers.proofs.MachineArithmetic.{Held}
use Rattle.method.specs.Verdicts.{accepted}
use Rattle.method.specs.Questions.{input_questions, question_8, observed_questions}
use Rattle.method.proofs.FirstRefusal.{went_on}
use Rattle.method.proofs.QuestionFacts.{Observed}
use Rattle.lent.specs.Triangles.{triangle_of, lists_right}
use Rattle.verdicts.specs.Verdicts.{verdict_of}
use Rattle.verdicts.proofs.Counts.{count_fits}
use Rattle.verdicts.proofs.Refusals.{handed_on, stopped_at}
use Rattle.ratios.specs.Ratios.{DevelopmentOf}
use Rattle.triangle.proofs.Exposures.{question_8_is}
use Rattle.triangle.proofs.ReadingAnswers.{refused_reading, observed, readable}
use Rattle.triangle.proofs.reading.read.Goals as goal
use Rattle.triangle.proofs.reading.read.Goals.{Start, In_ok-input_questions, After-question_8}

-- the number of years is one of 64 bits
years_held : (s : Start) → Held s.args.triangle.years
years_held s = search rules

-- questions 1 to 7
passed : (c : In_ok-input_questions) → let t = triangle_of c.args.triangle in input_questions t (lists_right t c.args.answers) ≡ accepted
passed c = sym c.in_ok-input_questions.ensures

read_of : (c : In_ok-input_questions) → Observed (triangle_of c.args.triangle)
read_of c = observed (triangle_of c.args.triangle) c.args.answers (passed c)

-- the ratios, and question 8
made : (c : After-question_8) → let d = c.development_of-development.result in DevelopmentOf (triangle_of c.args.triangle) d.ratios d.outstandings
made c = c.development_of-development.ensures.development c.args.triangle.cut

eight : (c : After-question_8) → Held c.args.triangle.years → verdict_of c.question_8.result ≡ question_8 (triangle_of c.args.triangle)
eight c years = (simp years at c.question_8.ensures) ∙ question_8_is (triangle_of c.args.triangle) _ _ (made c)

pub returns-in_err-input_questions : goal.returns-in_err-input_questions
unfolding observed_questions
returns-in_err-input_questions c =
    refused_reading _ _ _ _ c.from_residual.ensures.1 (stopped_at _ _ c.input_questions.ensures c.in_err-input_questions.was c.from_residual.ensures.1)

pub development_of-development-requires : goal.development_of-development-requires
development_of-development-requires c = readable (triangle_of c.args.triangle) c.args.answers (passed c)

pub overflow_cast-triangle : goal.overflow_cast-triangle
overflow_cast-triangle c =
    let here = goal.at.overflow_cast-triangle c in
    let years = (read_of here.In_ok-input_questions).years in
    simp (years_held here.Start) (count_fits c.args.triangle.years years.counted years.most)

pub question_8-requires : goal.question_8-requires
question_8-requires c =
    let here = goal.at.question_8-requires c in
    simp (years_held here.Start) (read_of here.In_ok-input_questions).years.most

pub returns-in_err-question_8 : goal.returns-in_err-question_8
unfolding observed_questions
returns-in_err-question_8 c =
    let here = goal.at.returns-in_err-question_8 c in
    refused_reading _ _ _ _ c.from_residual-in_err-question_8.ensures.1
    (went_on (passed here.In_ok-input_questions)
    (handed_on _ c.in_err-question_8.field-0.0 c.from_residual-in_err-question_8.ensures.1
    ∙ (sym (ap verdict_of c.in_err-question_8.was) ∙ eight here.After-question_8 (years_held here.Start))))

pub returns : goal.returns
unfolding observed_questions
returns c =
    let here = goal.at.returns c in
    record {
      verdict_is = went_on (passed here.In_ok-input_questions)
          (sym (ap verdict_of c.in_ok-question_8.was) ∙ eight here.After-question_8 (years_held here.Start));
      development_is = made here.After-question_8;
    }
