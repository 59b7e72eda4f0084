-- The numbers are those of the cell.
use mir.Syntax.{w64}
use mir.Facts.{to_z-of_z}
use Rattle.tables.proofs.one_cell.cell_title.Goals as goal

pub returns : goal.returns
returns c =
    simp (to_z-of_z {w = w64} c.ranges.accident_year, to_z-of_z {w = w64} c.ranges.development_year) at c.filled.ensures
