-- Questions 1, 3 and 10 one after another.
use mathlib.Core.Path.{◌≡◌, sym, ap, ◌∙◌}
use mir.Facts.{to_z-of_z}
use Rattle.method.specs.Verdicts.{accepted, nowhere, ask}
use Rattle.method.specs.Questions.{question_1, question_3, accident_year_in_range, question_10}
use Rattle.method.specs.Answers.{both_lengths_right, row_verdict}
use Rattle.method.proofs.Demands.{demand_1_of_row_verdict}
use Rattle.method.proofs.FirstRefusal.{went_on}
use Rattle.method.proofs.QuestionFacts.{YearsInRange, years_accepted}
use Rattle.verdicts.specs.Verdicts.{verdict_of}
use Rattle.verdicts.proofs.Counts.{count_fits}
use Rattle.verdicts.proofs.Refusals.{stopped_at}
use Rattle.rows.proofs.row_verdict.Goals as goal
use Rattle.rows.proofs.row_verdict.Goals.{After-question_1, In_ok-question_1, After-asked, In_ok-asked, After-asked-2}

-- each question's verdict, and what it is where the next one is asked
one : (c : After-question_1) → verdict_of c.question_1.result ≡ question_1 c.args.years
one c = simp (to_z-of_z c.ranges.years) at c.question_1.ensures

passed_one : (c : In_ok-question_1) → question_1 c.args.years ≡ accepted
passed_one c = sym (one (goal.at.In_ok-question_1 c).After-question_1) ∙ ap verdict_of c.in_ok-question_1.was

years : (c : In_ok-question_1) → YearsInRange c.args.years
years c = years_accepted c.args.years (passed_one c)

three : (c : After-asked) → verdict_of c.asked.result ≡ question_3 (both_lengths_right c.args.years c.args.payments.now c.args.adjustments.now)
unfolding question_3 both_lengths_right
three c =
    let right = simp (to_z-of_z c.ranges.years) at c.both_lengths_right-right.ensures in
    c.asked.ensures ∙ ap (λ b. ask b 3 nowhere) right

passed_three : (c : In_ok-asked) → question_3 (both_lengths_right c.args.years c.args.payments.now c.args.adjustments.now) ≡ accepted
passed_three c = sym (three (goal.at.In_ok-asked c).After-asked) ∙ ap verdict_of c.in_ok-asked.was

ten : (c : After-asked-2) → verdict_of c.asked-2.result ≡ question_10 (accident_year_in_range c.args.years c.args.accident_year)
unfolding question_10 accident_year_in_range
ten c =
    let in_range = simp (to_z-of_z c.ranges.years, to_z-of_z c.ranges.accident_year) at c.from_to.ensures in
    c.asked-2.ensures ∙ ap (λ b. ask b 10 nowhere) in_range

pub returns-in_err-question_1 : goal.returns-in_err-question_1
unfolding row_verdict
returns-in_err-question_1 c =
    let whole = stopped_at _ _ (one (goal.at.returns-in_err-question_1 c).After-question_1) c.in_err-question_1.was c.from_residual.ensures.1 in
    record { whole = whole; demand_1 = demand_1_of_row_verdict _ _ _ _ whole }

pub overflow_cast-years : goal.overflow_cast-years
overflow_cast-years c =
    let y = years (goal.at.overflow_cast-years c).In_ok-question_1 in
    simp (to_z-of_z c.ranges.years) (count_fits c.args.years y.counted y.most)

pub both_lengths_right-right-requires : goal.both_lengths_right-right-requires
both_lengths_right-right-requires c = simp (to_z-of_z c.ranges.years) (years (goal.at.both_lengths_right-right-requires c).In_ok-question_1).most

pub returns-in_err-asked : goal.returns-in_err-asked
unfolding row_verdict
returns-in_err-asked c =
    let here = goal.at.returns-in_err-asked c in
    let whole = went_on (passed_one here.In_ok-question_1) (stopped_at _ _ (three here.After-asked) c.in_err-asked.was c.from_residual-in_err-asked.ensures.1) in
    record { whole = whole; demand_1 = demand_1_of_row_verdict _ _ _ _ whole }

pub returns : goal.returns
unfolding row_verdict
returns c =
    let here = goal.at.returns c in
    let whole = went_on (passed_one here.In_ok-question_1) (went_on (passed_three here.In_ok-asked) (ten here.After-asked-2)) in
    record { whole = whole; demand_1 = demand_1_of_row_verdict _ _ _ _ whole }
