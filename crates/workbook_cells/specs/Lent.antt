-- What is lent, as ticket 1's workbook.
use Rattle.workbook.specs.Workbook as meaning
use Rattle.workbook_cells.specs.declared.lent_workbook.Workbook.{Workbook}
use Rattle.workbook_cells.specs.declared.lent_workbook.WorkbookCells.{WorkbookCells}

abbrev pub cells_of : WorkbookCells → meaning.CellList
cells_of c = record { kinds = c.kinds.now; numbers = c.numbers.now }

abbrev pub workbook_of : Workbook → meaning.Workbook
workbook_of b = record {
  years = b.years;
  cut = b.cut;
  payments = cells_of b.payments;
  adjustments = cells_of b.adjustments;
  weights = b.weights.now;
  openings = b.openings.now;
}
