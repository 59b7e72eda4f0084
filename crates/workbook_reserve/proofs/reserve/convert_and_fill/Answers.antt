-- Both lists converted, questions 11 to 13, and then the triangle as it is stored.
use Rattle.std.proofs.Common.{rules, ◌≡◌, length, sym, ap, ◌∙◌, subst}
use Rattle.integers.proofs.MachineArithmetic.{Held}
use Rattle.method.specs.Triangle.{Triangle}
use Rattle.verdicts.specs.Verdicts.{verdict_of}
use Rattle.verdicts.proofs.Refusals.{handed_on}
use Rattle.workbook.specs.Questions.{n, Y}
use Rattle.workbook_cells.specs.Lent.{workbook_of}
use Rattle.workbook_questions.specs.CellQuestions.{questions_11_to_13}
use Rattle.workbook_reserve.specs.Workbooks.{FilledInPairs}
use Rattle.workbook_reserve.proofs.AllLengths.{years_right, lengths_right}
use Rattle.workbook_reserve.proofs.Filled.{refused_at_cells, filled_as_stored}
use Rattle.workbook_reserve.proofs.reserve.convert_and_fill.Goals as goal
use Rattle.workbook_reserve.proofs.reserve.convert_and_fill.Goals.{After-convert-adjusted_whole, After-questions_11_to_13}

-- n and Y as the code reads them
held : (c : After-convert-adjusted_whole) → Held c.args.workbook.years × Held c.args.workbook.cut
held c = (search rules, search rules)

-- the verdict of questions 11 to 13
cells : (c : After-questions_11_to_13) → let b = workbook_of c.args.workbook in verdict_of c.questions_11_to_13.result ≡ questions_11_to_13 (n b) (Y b) b.payments b.adjustments
cells c =
    let h = held (goal.at.After-questions_11_to_13 c).After-convert-adjusted_whole in
    simp (h.0, h.1) at c.questions_11_to_13.ensures

pub returns-in_err-questions_11_to_13 : goal.returns-in_err-questions_11_to_13
returns-in_err-questions_11_to_13 c =
    let refused = handed_on _ _ c.from_residual.ensures.1 in
    let asked = sym (ap verdict_of c.in_err-questions_11_to_13.was) ∙ cells (goal.at.returns-in_err-questions_11_to_13 c).After-questions_11_to_13 in
    refused_at_cells (workbook_of c.args.workbook) _ _ c.requires.pairs_value (refused ∙ asked) refused

pub reserve_in_pairs-requires : goal.reserve_in_pairs-requires
reserve_in_pairs-requires c =
    let here = goal.at.reserve_in_pairs-requires c in
    let passed = c.requires.pairs_value in
    simp (held here.After-convert-adjusted_whole).0 ((years_right (workbook_of c.args.workbook) _ _ passed).most, (lengths_right (workbook_of c.args.workbook) _ _ passed).pairs)

pub returns : goal.returns
returns c =
    let here = goal.at.returns c in
    let b = c.args.workbook in
    let h = held here.After-convert-adjusted_whole in
    let filled = simp (h.0, h.1) at c.reserve_in_pairs.ensures in
    filled_as_stored (workbook_of b) _ _ c.requires.pairs_value (sym (cells here.After-questions_11_to_13) ∙ ap verdict_of c.in_ok-questions_11_to_13.was)
    (subst
    (λ (t : Triangle). FilledInPairs t (length c.args.future.now) (verdict_of c.reserve_in_pairs.result) c.reserve_in_pairs.new.future c.reserve_in_pairs.new.pairs)
    (λ d. record {
      years = b.years;
      cut = b.cut;
      payments = c.convert-paid_whole.ensures.amounts_after d;
      adjustments = c.convert-adjusted_whole.ensures.amounts_after d;
      weights = b.weights.now;
      openings = b.openings.now;
    })
    filled)
