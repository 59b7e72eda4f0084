-- Four entries after the accident year, each read off its list.
use mathlib.Core.Path.{ap, ◌∙◌}
use Rattle.integers.proofs.MachineArithmetic.{held}
use Rattle.written_figures.specs.Writing.{whole_text, amount_text}
use Rattle.printed.proofs.LineTexts.{both_after, line_after}
use Rattle.reserve_table.specs.ReserveRows.{reserves_row}
use Rattle.reserve_table.proofs.reserve_rows.ReserveTable.row.Goals as goal

pub returns : goal.returns
unfolding reserves_row
returns c =
    let outstanding = held c.number_at.result c.number_at.type_inv ∙ c.number_at.ensures in
    let paid = held c.reserve_at.result c.reserve_at.type_inv ∙ c.reserve_at.ensures in
    let incurred = held c.reserve_at-2.result c.reserve_at-2.type_inv ∙ c.reserve_at-2.ensures in
    let closing = held c.reserve_at-3.result c.reserve_at-3.type_inv ∙ c.reserve_at-3.ensures in
    line_after c.label.ensures
    (both_after (rw (c.text.ensures ∙ c.whole.ensures.text ∙ ap whole_text outstanding) at c.with_entry.ensures)
    (both_after (rw (c.text-2.ensures ∙ c.amount-paid.ensures.text ∙ ap amount_text paid) at c.with_entry-2.ensures)
    (both_after (rw (c.text-3.ensures ∙ c.amount-incurred.ensures.text ∙ ap amount_text incurred) at c.with_entry-3.ensures)
    (rw (c.text-4.ensures ∙ c.amount-closing.ensures.text ∙ ap amount_text closing) at c.with_entry-4.ensures))))
