-- Row after row.
use Rattle.method.specs.Questions.{question_9_of_year}
use Rattle.method.proofs.FirstRefusal.{PassedSoFar}
use Rattle.run_off.specs.MethodRead.{method_read}
use Rattle.run_off.proofs.rows.question_9.Given as goal

abbrev pub invariant-loop-r : goal.invariant-loop-r
invariant-loop-r l = PassedSoFar l.triangle.n (question_9_of_year (method_read l.triangle)) l.r
