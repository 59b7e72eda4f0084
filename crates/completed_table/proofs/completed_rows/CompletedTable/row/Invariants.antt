-- The cells that are left make the whole after what is there.
use Rattle.std.proofs.Common.{◌≡◌, ◌-◌, length}
use Rattle.printed.specs.declared.line.Line.{Line}
use Rattle.printed.specs.Line.{LineIs, After}
use Rattle.printed.specs.Entries.{entries_after}
use Rattle.completed_table.specs.CompletedRows.{RowSeenWithin, shown_entry, cell_shown, completed_row}
use Rattle.completed_table.proofs.completed_rows.CompletedTable.row.Given as goal

abbrev pub invariant-loop-k : goal.invariant-loop-k
invariant-loop-k l =
    let t = l.self in
    record {
      room : length l.line.bytes ≡ 512;
      left : RowSeenWithin t.n t.lists l.i → (r : Line)
          → After l.line (entries_after (λ k. shown_entry (cell_shown t.n t.lists t.table l.i k)) l.part.column l.k (l.part.last - l.k)) r
          → LineIs (completed_row t.n t.lists t.table l.i l.part.before l.part.last l.part.column) r;
    }
