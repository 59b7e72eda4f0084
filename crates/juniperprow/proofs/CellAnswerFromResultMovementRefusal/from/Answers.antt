-- The two cases of a cell.
use Rattle.std.proofs.Common.{rules, refl}
use Rattle.integers.proofs.MachineArithmetic.{held}
use Rattle.juniperprow.specs.HostAnswers.{cell_answer}
use Rattle.juniperprow.proofs.CellAnswerFromResultMovementRefusal.from.Goals as goal

pub returns-in-Ok : goal.returns-in-Ok
unfolding cell_answer
returns-in-Ok c =
    let m = c.in-Ok.movement in
    rw (
      c.in-Ok.is,
      held m.payment.0 (search rules),
      held m.adjustment.0 (search rules),
      held m.outstanding.0 (search rules),
      c.from.ensures,
    ) refl

pub returns-in-Err : goal.returns-in-Err
unfolding cell_answer
returns-in-Err c = rw (c.in-Err.is, c.from-in-Err.ensures) refl
