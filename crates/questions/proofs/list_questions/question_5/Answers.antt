-- The payments, then the adjustments.
use mathlib.Core.Path.{sym, ap, ◌∙◌}
use Rattle.method.specs.Questions.{question_5}
use Rattle.method.proofs.FirstRefusal.{went_on}
use Rattle.verdicts.specs.Verdicts.{verdict_of}
use Rattle.verdicts.proofs.Refusals.{stopped_at}
use Rattle.cells.specs.Cells.{whole_list}
use Rattle.questions.proofs.list_questions.question_5.Goals as goal

pub returns-in_err-amounts_right : goal.returns-in_err-amounts_right
unfolding question_5 whole_list
returns-in_err-amounts_right c = λ weights openings. stopped_at _ _ c.amounts_right.ensures c.in_err-amounts_right.was c.from_residual.ensures.1

pub returns : goal.returns
unfolding question_5 whole_list
returns c = λ weights openings. went_on (sym c.amounts_right.ensures ∙ ap verdict_of c.in_ok-amounts_right.was) c.amounts_right-2.ensures
