-- Year by year: the state is the meaning's after each turn, and the figures of each year are written.
use Rattle.run_off.specs.MethodRead.{method_read}
use Rattle.run_off.proofs.RowAnswers.{WrittenSoFar}
use Rattle.run_off.proofs.rows.project_row.Given as goal

abbrev pub invariant-loop-projected : goal.invariant-loop-projected
invariant-loop-projected g l = WrittenSoFar (method_read l.triangle) l.i (g.D.Destination.start l.destination) l.initial.list l.list l.projected l.state
