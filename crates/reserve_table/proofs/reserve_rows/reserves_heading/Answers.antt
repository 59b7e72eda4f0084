-- Four entries after the first column.
use Rattle.printed.proofs.LineTexts.{both_after, line_after}
use Rattle.reserve_table.specs.ReserveRows.{reserves_heading}
use Rattle.reserve_table.proofs.reserve_rows.reserves_heading.Goals as goal

pub returns : goal.returns
unfolding reserves_heading
returns c =
    line_after c.of.ensures
    (both_after c.with_entry.ensures
    (both_after c.with_entry-2.ensures (both_after c.with_entry-3.ensures c.with_entry-4.ensures)))
