-- Questions 1 to 3 of the lengths, then those of the lists, with n and Y as counts.
use Rattle.std.proofs.Common.{rules, ◌≡◌, [], sym, ap, ◌∙◌}
use Rattle.integers.proofs.MachineArithmetic.{Held}
use Rattle.method.specs.Verdicts.{accepted}
use Rattle.method.specs.Questions.{question_4, list_questions}
use Rattle.method.specs.Demand1.{InputLengthsRight}
use Rattle.method.proofs.FirstRefusal.{went_on}
use Rattle.method.proofs.QuestionFacts.{says_input_lengths}
use Rattle.lent.specs.Triangles.{triangle_of}
use Rattle.verdicts.specs.Verdicts.{verdict_of}
use Rattle.verdicts.proofs.Counts.{count_fits}
use Rattle.verdicts.proofs.Refusals.{stopped_at}
use Rattle.list_lengths.specs.Lengths.{questions_1_to_3}
use Rattle.questions.specs.Inputs.{Measured, lengths_of}
use Rattle.questions.proofs.Counted.{input_questions_is, measured}
use Rattle.questions.proofs.inputs.input_questions.Goals as goal
use Rattle.questions.proofs.inputs.input_questions.Goals.{After-questions_1_to_3, In_ok-questions_1_to_3, After-question_4, In_ok-question_4}

-- n and Y as the code reads them
held : (c : After-questions_1_to_3) → Held c.args.triangle.years × Held c.args.triangle.cut
held c = (search rules, search rules)

-- each verdict, and what questions 1 to 3 leave
three : (c : After-questions_1_to_3) → let t = triangle_of c.args.triangle in
    verdict_of c.questions_1_to_3.result ≡ questions_1_to_3 t.years t.cut (lengths_of t c.args.answers)
three c = simp ((held c).0, (held c).1) at c.questions_1_to_3.ensures

passed_three : (c : In_ok-questions_1_to_3) → let t = triangle_of c.args.triangle in questions_1_to_3 t.years t.cut (lengths_of t c.args.answers) ≡ accepted
passed_three c = sym (three (goal.at.In_ok-questions_1_to_3 c).After-questions_1_to_3) ∙ ap verdict_of c.in_ok-questions_1_to_3.was

left : (c : In_ok-questions_1_to_3) → Measured (triangle_of c.args.triangle)
left c = measured (triangle_of c.args.triangle) c.args.answers (passed_three c)

four : (c : After-question_4) → verdict_of c.question_4.result ≡ question_4 (triangle_of c.args.triangle)
unfolding question_4
four c = simp (held (goal.at.After-question_4 c).After-questions_1_to_3).0 at (c.question_4.ensures 1 [] [] [])

passed_four : (c : In_ok-question_4) → question_4 (triangle_of c.args.triangle) ≡ accepted
passed_four c = sym (four (goal.at.In_ok-question_4 c).After-question_4) ∙ ap verdict_of c.in_ok-question_4.was

pub returns-in_err-questions_1_to_3 : goal.returns-in_err-questions_1_to_3
returns-in_err-questions_1_to_3 c =
    stopped_at _ _ (three (goal.at.returns-in_err-questions_1_to_3 c).After-questions_1_to_3) c.in_err-questions_1_to_3.was c.from_residual.ensures.1
    ∙ input_questions_is (triangle_of c.args.triangle) c.args.answers

pub overflow_cast-triangle : goal.overflow_cast-triangle
overflow_cast-triangle c =
    let here = goal.at.overflow_cast-triangle c in
    let m = left here.In_ok-questions_1_to_3 in
    simp (held here.After-questions_1_to_3).0 (count_fits c.args.triangle.years m.years_counted m.most)

pub question_4-requires : goal.question_4-requires
question_4-requires c =
    let here = goal.at.question_4-requires c in
    let m = left here.In_ok-questions_1_to_3 in
    let l : InputLengthsRight (triangle_of c.args.triangle) = (says_input_lengths (triangle_of c.args.triangle)).sound m.lengths in
    simp (held here.After-questions_1_to_3).0 (m.first, m.most, l.weights)

pub returns-in_err-question_4 : goal.returns-in_err-question_4
unfolding list_questions
returns-in_err-question_4 c =
    let here = goal.at.returns-in_err-question_4 c in
    went_on (passed_three here.In_ok-questions_1_to_3)
    (stopped_at _ _ (four here.After-question_4) c.in_err-question_4.was c.from_residual-in_err-question_4.ensures.1)
    ∙ input_questions_is (triangle_of c.args.triangle) c.args.answers

pub questions_5_to_7-requires : goal.questions_5_to_7-requires
questions_5_to_7-requires c = left (goal.at.questions_5_to_7-requires c).In_ok-questions_1_to_3

pub returns : goal.returns
unfolding list_questions
returns c =
    let here = goal.at.returns c in
    went_on (passed_three here.In_ok-questions_1_to_3) (went_on (passed_four here.In_ok-question_4) c.questions_5_to_7.ensures)
    ∙ input_questions_is (triangle_of c.args.triangle) c.args.answers
