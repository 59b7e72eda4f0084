-- Three entries after the first column.
use Rattle.printed.proofs.LineTexts.{both_after, line_after}
use Rattle.tables.specs.SumsRows.{sums_heading}
use Rattle.tables.proofs.sums_rows.sums_heading.Goals as goal

pub returns : goal.returns
unfolding sums_heading
returns c = line_after c.of.ensures (both_after c.with_entry.ensures (both_after c.with_entry-2.ensures c.with_entry-3.ensures))
