-- Empty where it is refused, and else the part that `row_of` finds.
use mathlib.Core.Path.{◌≡◌, refl, sym, ap, ◌∙◌}
use mir.Facts.{to_z-of_z}
use Rattle.method.specs.Answers.{row_verdict}
use Rattle.method.proofs.FirstRefusal.{not_both}
use Rattle.verdicts.specs.Verdicts.{verdict_of}
use Rattle.rows.specs.Rows.{amounts_of}
use Rattle.rows.proofs.RowParts.{named_holds, refused_row, accepted_row}
use Rattle.rows.proofs.row.Goals as goal
use Rattle.rows.proofs.row.Goals.{After-row_verdict}

asked : (c : After-row_verdict) → let a = c.args in
    verdict_of c.row_verdict.result ≡ row_verdict a.years a.payments.now a.adjustments.now a.accident_year
asked c = simp (to_z-of_z c.ranges.years, to_z-of_z c.ranges.accident_year) at c.row_verdict.ensures.whole

pub returns-in-Ok : goal.returns-in-Ok
returns-in-Ok c =
    let list = c.named_list-list.ensures in
    let passed = sym (asked (goal.at.returns-in-Ok c).After-row_verdict) ∙ ap verdict_of c.in-Ok.is in
    record {
      holds = (simp (to_z-of_z c.ranges.years, to_z-of_z c.ranges.accident_year, list, named_holds) at c.row_of.ensures.result_value)
          ∙ accepted_row c.args.years _ _ c.args.accident_year (amounts_of c.args.named) passed;
      empty_where_refused = λ no. absurd (no passed);
      own_part = λ yes. simp (to_z-of_z c.ranges.years, to_z-of_z c.ranges.accident_year, list) at c.row_of.ensures.own_part;
    }

pub returns-in-Err : goal.returns-in-Err
returns-in-Err c =
    let no = sym (asked (goal.at.returns-in-Err c).After-row_verdict) ∙ ap verdict_of c.in-Err.is in
    record {
      holds = refused_row _ _ _ _ (amounts_of c.args.named) no;
      empty_where_refused = λ _. refl;
      own_part = λ yes. absurd (not_both yes no);
    }
