-- What the call below ensures, of the numbers that it is handed.
use mir.Facts.{to_z-of_z}
use Rattle.juniperprow_c.proofs.juniperprow_row_verdict.Goals as goal

pub returns : goal.returns
returns c = simp (to_z-of_z c.ranges.years, to_z-of_z c.ranges.accident_year) at c.juniperprow_row_verdict.ensures
