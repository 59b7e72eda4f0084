-- Questions 1 to 3 of the lists that document 01's filling call reads, question 3 of the others, and question 4.
use Rattle.std.proofs.Common.{rules, ◌≡◌, Bool, [], sym, ap, ◌∙◌, arith}
use Rattle.integers.proofs.MachineArithmetic.{Held}
use Rattle.method.specs.Verdicts.{accepted, nowhere, ask}
use Rattle.method.specs.Questions.{question_3, question_4}
use Rattle.method.proofs.FirstRefusal.{went_on}
use Rattle.method.proofs.QuestionFacts.{YearsInRange}
use Rattle.verdicts.specs.Verdicts.{verdict_of}
use Rattle.verdicts.proofs.Refusals.{stopped_at}
use Rattle.list_lengths.specs.Lengths.{questions_1_to_3}
use Rattle.questions.proofs.Counted.{years_right}
use Rattle.workbook.specs.Questions.{n}
use Rattle.workbook_cells.specs.Lent.{workbook_of}
use Rattle.workbook_reserve.specs.Workbooks.{other_lengths_right}
use Rattle.workbook_reserve.proofs.AllLengths.{lengths_read, lengths_besides, questions_in_parts, measured}
use Rattle.workbook_reserve.proofs.lengths.questions_1_to_4.Goals as goal
use Rattle.workbook_reserve.proofs.lengths.questions_1_to_4.Goals.{After-questions_1_to_3, In_ok-questions_1_to_3, After-asked, In_ok-asked}

-- n and Y as the code reads them
held : (c : After-questions_1_to_3) → Held c.args.workbook.years × Held c.args.workbook.cut
held c = (search rules, search rules)

three : (c : After-questions_1_to_3) → let b = workbook_of c.args.workbook in verdict_of c.questions_1_to_3.result ≡ questions_1_to_3 b.years b.cut (lengths_read b)
three c = simp ((held c).0, (held c).1) at c.questions_1_to_3.ensures

module _ (c : In_ok-questions_1_to_3) where
  passed_three : let b = workbook_of c.args.workbook in questions_1_to_3 b.years b.cut (lengths_read b) ≡ accepted
  passed_three = sym (three (goal.at.In_ok-questions_1_to_3 c).After-questions_1_to_3) ∙ ap verdict_of c.in_ok-questions_1_to_3.was

  years : YearsInRange c.args.workbook.years
  years = years_right _ _ _ passed_three

pub returns-in_err-questions_1_to_3 : goal.returns-in_err-questions_1_to_3
returns-in_err-questions_1_to_3 c =
    stopped_at _ _ (three (goal.at.returns-in_err-questions_1_to_3 c).After-questions_1_to_3) c.in_err-questions_1_to_3.was c.from_residual.ensures.1
    ∙ questions_in_parts (workbook_of c.args.workbook) c.args.future c.args.pairs

others : (c : After-asked) → let b = workbook_of c.args.workbook in verdict_of c.asked.result ≡ question_3 (other_lengths_right (n b) (lengths_besides b c.args.future c.args.pairs))
unfolding question_3
others c =
    let right = simp (held (goal.at.After-asked c).After-questions_1_to_3).0 at c.other_lengths_right.ensures in
    c.asked.ensures ∙ ap (λ (b : Bool). ask b 3 nowhere) right

pub returns-in_err-asked : goal.returns-in_err-asked
returns-in_err-asked c =
    let here = goal.at.returns-in_err-asked c in
    went_on (passed_three here.In_ok-questions_1_to_3) (stopped_at _ _ (others here.After-asked) c.in_err-asked.was c.from_residual-in_err-asked.ensures.1)
    ∙ questions_in_parts (workbook_of c.args.workbook) c.args.future c.args.pairs

passed_others : (c : In_ok-asked) → let b = workbook_of c.args.workbook in question_3 (other_lengths_right (n b) (lengths_besides b c.args.future c.args.pairs)) ≡ accepted
passed_others c = sym (others (goal.at.In_ok-asked c).After-asked) ∙ ap verdict_of c.in_ok-asked.was

pub question_4-requires : goal.question_4-requires
question_4-requires c =
    let here = goal.at.question_4-requires c in
    let y = years here.In_ok-questions_1_to_3 in
    let lengths = measured (workbook_of c.args.workbook) c.args.future c.args.pairs (passed_three here.In_ok-questions_1_to_3) (passed_others here.In_ok-asked) in
    simp (held here.After-questions_1_to_3).0 (omega (arith, y.fewest), y.most, lengths.weights)

pub returns : goal.returns
unfolding question_4
returns c =
    let here = goal.at.returns c in
    let fourth = simp (held here.After-questions_1_to_3).0 at (c.question_4.ensures 1 [] [] []) in
    went_on (passed_three here.In_ok-questions_1_to_3) (went_on (passed_others here.In_ok-asked) fourth)
    ∙ questions_in_parts (workbook_of c.args.workbook) c.args.future c.args.pairs
