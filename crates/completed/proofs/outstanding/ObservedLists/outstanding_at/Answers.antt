-- After so many years the outstanding is that of the last of them, where the row is within the limits: the contract at that year.
use mathlib.Core.Path.{◌∙◌}
use mir.Facts.{sfits_to_z}
use Rattle.integers.proofs.MachineArithmetic.{held}
use Rattle.completed.proofs.OutstandingsOfRow.{next_year}
use Rattle.completed.proofs.outstanding.ObservedLists.outstanding_at.Goals as goal

pub loop-before-preserved : goal.loop-before-preserved
loop-before-preserved c =
    let payment = c.number_in-payment in
    let adjustment = c.number_in-adjustment in
    let moved = c.moved-outstanding in
    next_year _ _ _ (sfits_to_z c.loop-before.auto.outstanding-fits) c.loop-before.invariant
    (rw (held moved.result moved.type_inv)
    (simp (held payment.result payment.type_inv ∙ payment.ensures, held adjustment.result adjustment.type_inv ∙ adjustment.ensures) at moved.ensures))
