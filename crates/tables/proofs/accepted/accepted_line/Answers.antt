-- The numbers are those of the heading.
use mir.Syntax.{w64}
use mir.Facts.{to_z-of_z}
use Rattle.tables.proofs.accepted.accepted_line.Goals as goal

pub returns : goal.returns
returns c =
    simp (to_z-of_z {w = w64} c.ranges.years, to_z-of_z {w = w64} c.ranges.cut) at c.filled.ensures
