-- Twice the development year, and one more for the outstanding, which is taken from the movement of the same year.
use Prim.Native.Nat.{◌+◌, ◌*◌}
use Rattle.single_cell.proofs.+movement_outstanding.Given as goal

abbrev pub decreases-movement : goal.decreases-movement
decreases-movement l = 2 * l.k

abbrev pub decreases-outstanding : goal.decreases-outstanding
decreases-outstanding l = 2 * l.k + 1
