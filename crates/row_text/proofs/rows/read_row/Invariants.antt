-- Each turn reads one cell more (`CellByCell`), until the row ends or the list is full.
use lib.ListN.{length}
use Rattle.row_text.specs.Rows.{row_numbers}
use Rattle.row_text.proofs.CellByCell.{numbers_left, ReadSoFar}
use Rattle.row_text.proofs.rows.read_row.Given as goal

abbrev pub invariant-loop-cells : goal.invariant-loop-cells
invariant-loop-cells l =
    ReadSoFar (row_numbers l.fn.line.separator l.missing l.cumulated l.openings (length l.initial.list) l.fn.line.bytes.now)
    l.fn.line.bytes.now l.rest.bytes.now l.initial.list l.list l.cells
    (numbers_left l.rest.separator l.missing l.cumulated l.openings (length l.initial.list) l.cells l.figure l.rest.bytes.now)
