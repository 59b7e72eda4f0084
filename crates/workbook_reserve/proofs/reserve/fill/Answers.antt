-- Questions 1 to 4, and then the rest by way of two local arrays.
use Rattle.std.proofs.Common.{sym, ap, ◌∙◌}
use Rattle.verdicts.specs.Verdicts.{verdict_of}
use Rattle.verdicts.proofs.Refusals.{handed_on}
use Rattle.workbook_cells.specs.Lent.{workbook_of}
use Rattle.workbook_reserve.proofs.Filled.{refused_before_cells}
use Rattle.workbook_reserve.proofs.reserve.fill.Goals as goal

pub returns-in_err-questions_1_to_4 : goal.returns-in_err-questions_1_to_4
returns-in_err-questions_1_to_4 c =
    let refused = handed_on _ _ c.from_residual.ensures.1 in
    refused_before_cells (workbook_of c.args.workbook) _ _ (refused ∙ sym (ap verdict_of c.in_err-questions_1_to_4.was) ∙ c.questions_1_to_4.ensures) refused
