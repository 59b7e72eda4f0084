-- Three entries after the development years, each one of the sums.
use mathlib.Core.Path.{ap, ◌∙◌}
use Rattle.std.proofs.Common.{get_or, ◌-◌, arith}
use Rattle.integers.proofs.MachineArithmetic.{held}
use Rattle.written_figures.specs.Writing.{whole_text}
use Rattle.ratios.specs.Ratios.{no_sums}
use Rattle.printed.proofs.LineTexts.{both_after, line_after}
use Rattle.tables.specs.SumsRows.{sums_row}
use Rattle.tables.proofs.sums_rows.sums_row.Goals as goal

pub returns : goal.returns
unfolding sums_row
returns c =
    let sums = get_or c.args.ratios.now (c.args.k - 1) no_sums in
    line_after c.years_label.ensures
    (both_after (rw (c.text.ensures ∙ c.whole.ensures.text ∙ ap whole_text (held sums.payments (omega arith))) at c.with_entry.ensures)
    (both_after (rw (c.text-2.ensures ∙ c.whole-2.ensures.text ∙ ap whole_text (held sums.adjustments (omega arith))) at c.with_entry-2.ensures)
    (rw (c.text-3.ensures ∙ c.whole-3.ensures.text ∙ ap whole_text (held sums.exposure (omega arith))) at c.with_entry-3.ensures)))
