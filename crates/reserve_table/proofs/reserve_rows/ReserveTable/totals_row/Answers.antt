-- Four totals after the first column.
use Rattle.std.proofs.Common.{rules}
use Rattle.written_figures.specs.Writing.{whole_text, amount_text}
use Rattle.printed.proofs.LineTexts.{both_after, line_after}
use Rattle.reserve_table.specs.ReserveRows.{totals_row}
use Rattle.reserve_table.proofs.reserve_rows.ReserveTable.totals_row.Goals as goal

pub returns : goal.returns
unfolding totals_row
returns c =
    line_after c.of-title.ensures
    (both_after (rw c.outstandings_total.ensures at (c.with_total-to_observed.ensures.is whole_text (λ x w fits h. search rules)))
    (both_after (rw c.reserves_total-paid.ensures at (c.with_total-to_paid.ensures.is amount_text (λ x w fits h. search rules)))
    (both_after (rw c.reserves_total-incurred.ensures at (c.with_total-to_incurred.ensures.is amount_text (λ x w fits h. search rules)))
    (rw c.reserves_total-closing.ensures at (c.with_total.ensures.is amount_text (λ x w fits h. search rules))))))
