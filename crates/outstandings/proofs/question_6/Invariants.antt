-- A walk through the cells, row by row, with the outstanding of each from the one before.
use Rattle.std.proofs.Common.{List, ℤ}
use Rattle.method.specs.Verdicts.{each_in_row}
use Rattle.method.proofs.FirstRefusal.{PassedSoFar}
use Rattle.outstandings.proofs.RowOutstandings.{in_range, YearsPassed}
use Rattle.outstandings.proofs.question_6.Given as goal

abbrev pub invariant-loop-r : goal.invariant-loop-r
invariant-loop-r l = (weights : List ℤ) → PassedSoFar l.n (each_in_row l.n 6 (in_range l.n l.cut l.payments l.adjustments weights l.openings)) l.r

abbrev pub invariant-loop-j : goal.invariant-loop-j
invariant-loop-j l = (weights : List ℤ) → YearsPassed l.n l.cut l.payments l.adjustments weights l.openings l.r l.outstanding l.j
