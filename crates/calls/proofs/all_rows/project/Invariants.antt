-- Row after row, both lists filling from the left.
use Rattle.run_off.specs.MethodRead.{method_read}
use Rattle.calls.proofs.RowsLoop.{RowsSoFar}
use Rattle.calls.proofs.all_rows.project.Given as goal

abbrev pub invariant-loop-r : goal.invariant-loop-r
invariant-loop-r l = RowsSoFar (method_read l.triangle) l.future l.reserves l.r
