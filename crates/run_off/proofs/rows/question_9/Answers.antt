-- No row is asked yet.
use Rattle.method.proofs.FirstRefusal.{none_asked}
use Rattle.run_off.proofs.rows.question_9.Goals as goal

pub loop-r-init : goal.loop-r-init
loop-r-init c = none_asked _ _
