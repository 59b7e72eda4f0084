-- The cells that are left make the whole after what is there.
use Rattle.std.proofs.Common.{ℕ, List, arith, rules}
use Rattle.printed.proofs.LineTexts.{line_after}
use Rattle.printed.proofs.EntryTexts.{one_entry_more, no_entry_more}
use Rattle.completed_table.specs.CompletedRows.{shown_entry, cell_shown, completed_row}
use Rattle.completed_table.proofs.completed_rows.CompletedTable.row.Goals as goal
use Rattle.completed_table.proofs.completed_rows.CompletedTable.row.Goals.{Start}

abbrev entry_in : Start → ℕ → List ℕ
entry_in c k = let t = c.args.self in shown_entry (cell_shown t.n t.lists t.table c.args.i k)

pub loop-k-init : goal.loop-k-init
unfolding completed_row
loop-k-init c = record { room = search rules; left = λ within r after. line_after c.label-line.ensures after }

pub loop-k-preserved : goal.loop-k-preserved
loop-k-preserved c = record {
  room = search rules;
  left = λ within r after.
      let entry = rw (c.shown_in.ensures.is within) at c.with_shown_entry-line.ensures in
      c.loop-k.invariant.left within r (one_entry_more (entry_in (goal.at.loop-k-preserved c).Start) c.args.part.column c.loop-k.k c.args.part.last (omega arith) entry after);
}

pub returns : goal.returns
returns c = record {
  is = λ within.
      c.loop-k.invariant.left within c.loop-k.line
      (no_entry_more (entry_in (goal.at.returns c).Start) c.args.part.column c.loop-k.k c.args.part.last (omega arith) c.loop-k.invariant.room);
}
