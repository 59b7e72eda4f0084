-- One question after another, with n and Y as counts.
use Rattle.std.proofs.Common.{rules, ◌≡◌, [], sym, ap, ◌∙◌}
use Rattle.integers.proofs.MachineArithmetic.{Held}
use Rattle.method.specs.Verdicts.{accepted}
use Rattle.method.specs.Questions.{question_5, question_6, question_7}
use Rattle.method.specs.Demand1.{InputLengthsRight}
use Rattle.method.proofs.FirstRefusal.{went_on}
use Rattle.method.proofs.QuestionFacts.{says_input_lengths}
use Rattle.lent.specs.Triangles.{triangle_of}
use Rattle.verdicts.specs.Verdicts.{verdict_of}
use Rattle.verdicts.proofs.Refusals.{stopped_at}
use Rattle.questions.proofs.Counted.{counted_is}
use Rattle.questions.proofs.inputs.questions_5_to_7.Goals as goal
use Rattle.questions.proofs.inputs.questions_5_to_7.Goals.{Start, After-question_5, In_ok-question_5, After-question_6, In_ok-question_6, After-question_7}

measured : (c : Start) → InputLengthsRight (triangle_of c.args.triangle)
measured c = (says_input_lengths (triangle_of c.args.triangle)).sound c.requires.lengths

pub question_5-requires : goal.question_5-requires
question_5-requires c =
    let years : Held c.args.triangle.years = search rules in
    let l = measured (goal.at.question_5-requires c).Start in
    simp years (c.requires.most, l.payments, l.adjustments)

-- n and Y as the code reads them
held : (c : After-question_5) → Held c.args.triangle.years × Held c.args.triangle.cut
held c = (search rules, search rules)

five : (c : After-question_5) → verdict_of c.question_5.result ≡ question_5 (triangle_of c.args.triangle)
unfolding question_5
five c = simp ((held c).0, (held c).1) at (c.question_5.ensures [] [])

passed_five : (c : In_ok-question_5) → question_5 (triangle_of c.args.triangle) ≡ accepted
passed_five c = sym (five (goal.at.In_ok-question_5 c).After-question_5) ∙ ap verdict_of c.in_ok-question_5.was

pub returns-in_err-question_5 : goal.returns-in_err-question_5
returns-in_err-question_5 c =
    stopped_at _ _ (five (goal.at.returns-in_err-question_5 c).After-question_5) c.in_err-question_5.was c.from_residual.ensures.1

pub question_6-requires : goal.question_6-requires
unfolding question_5
question_6-requires c =
    let here = goal.at.question_6-requires c in
    let h = held here.After-question_5 in
    let l = measured here.Start in
    simp (h.0, h.1) (record {
      most = c.requires.most;
      payments_length = l.payments;
      adjustments_length = l.adjustments;
      openings_length_right = l.openings;
      passed = passed_five here.In_ok-question_5;
    })

six : (c : After-question_6) → verdict_of c.question_6.result ≡ question_6 (triangle_of c.args.triangle)
six c =
    let h = held (goal.at.After-question_6 c).After-question_5 in
    let counted = counted_is (triangle_of c.args.triangle) c.requires.years_counted c.requires.cut_counted in
    (simp (h.0, h.1) at (c.question_6.ensures c.args.triangle.weights.now)) ∙ ap question_6 (sym counted)

passed_six : (c : In_ok-question_6) → question_6 (triangle_of c.args.triangle) ≡ accepted
passed_six c = sym (six (goal.at.In_ok-question_6 c).After-question_6) ∙ ap verdict_of c.in_ok-question_6.was

pub returns-in_err-question_6 : goal.returns-in_err-question_6
returns-in_err-question_6 c =
    let here = goal.at.returns-in_err-question_6 c in
    went_on (passed_five here.In_ok-question_5) (stopped_at _ _ (six here.After-question_6) c.in_err-question_6.was c.from_residual-in_err-question_6.ensures.1)

pub question_7-requires : goal.question_7-requires
question_7-requires c =
    let here = goal.at.question_7-requires c in
    simp (held here.After-question_5).0 (c.requires.first, c.requires.most, (measured here.Start).weights)

seven : (c : After-question_7) → verdict_of c.question_7.result ≡ question_7 (triangle_of c.args.triangle)
unfolding question_7
seven c =
    let h = held (goal.at.After-question_7 c).After-question_5 in
    simp (h.0, h.1) at (c.question_7.ensures [] [] [])

pub returns : goal.returns
returns c =
    let here = goal.at.returns c in
    went_on (passed_five here.In_ok-question_5) (went_on (passed_six here.In_ok-question_6) (seven here.After-question_7))
