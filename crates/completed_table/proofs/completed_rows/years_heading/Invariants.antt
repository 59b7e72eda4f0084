-- The development years that are left make the whole after what is there.
use Rattle.std.proofs.Common.{◌≡◌, ◌-◌, length}
use Rattle.printed.specs.declared.line.Line.{Line}
use Rattle.printed.specs.Line.{LineIs, After}
use Rattle.printed.specs.Entries.{count_text, entries_after}
use Rattle.completed_table.specs.CompletedRows.{years_heading}
use Rattle.completed_table.proofs.completed_rows.years_heading.Given as goal

abbrev pub invariant-loop-k : goal.invariant-loop-k
invariant-loop-k l = record {
  room : length l.line.bytes ≡ 512;
  left : (r : Line) → After l.line (entries_after count_text l.part.column l.k (l.part.last - l.k)) r → LineIs (years_heading l.part.before l.part.last l.part.column) r;
}
