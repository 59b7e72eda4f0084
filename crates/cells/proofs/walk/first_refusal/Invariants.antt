-- A walk through the cells, row by row.
use Rattle.std.proofs.Common.{Bool, ℕ, ◌+◌, ◌-◌}
use Rattle.method.specs.Verdicts.{each_in_row}
use Rattle.method.proofs.FirstRefusal.{PassedSoFar}
use Rattle.verdicts.specs.Verdicts.{number_of}
use Rattle.cells.specs.Cells.{Answers}
use Rattle.cells.proofs.CellWalk.{cell_verdict}
use Rattle.cells.proofs.walk.first_refusal.Given as goal

abbrev pub invariant-loop-r : goal.invariant-loop-r
invariant-loop-r g l =
    (test : ℕ → ℕ → Bool) → Answers l.n (goal.F-post g l.passes) test
    → PassedSoFar l.n (each_in_row l.n (number_of l.question) test) l.r

abbrev pub invariant-loop-j : goal.invariant-loop-j
invariant-loop-j g l =
    (test : ℕ → ℕ → Bool) → Answers l.n (goal.F-post g l.passes) test
    → PassedSoFar (l.n - l.r) (cell_verdict (number_of l.question) test (l.r + 1)) l.j
