-- Neither the difference nor the sum passes 64 bits: all are in range, or nothing moves.
use lib.IntN.{◌+ℤ◌, ◌-ℤ◌}
use mir.Syntax.{w64}
use mir.Val.{SFits}
use mir.Facts.{to_z-of_z}
use Rattle.outstandings.proofs.RowOutstandings.{less_payment_fits, next_fits}
use Rattle.outstandings.proofs.next_outstanding.Goals as goal
use Rattle.outstandings.proofs.next_outstanding.Goals.{Start}

without_payment : (c : Start) → SFits w64 (c.args.outstanding -ℤ c.args.payment)
without_payment c = less_payment_fits c.args.outstanding c.args.payment c.args.adjustment c.ranges.outstanding c.requires

moved : (c : Start) → SFits w64 (c.args.outstanding -ℤ c.args.payment +ℤ c.args.adjustment)
moved c = next_fits c.args.outstanding c.args.payment c.args.adjustment c.ranges.outstanding c.requires

pub overflow_sub-result : goal.overflow_sub-result
overflow_sub-result c = simp (to_z-of_z c.ranges.outstanding, to_z-of_z c.ranges.payment) (without_payment (goal.at.overflow_sub-result c).Start)

pub overflow_add-result : goal.overflow_add-result
overflow_add-result c =
    let here = goal.at.overflow_add-result c in
    simp (to_z-of_z c.ranges.outstanding, to_z-of_z c.ranges.payment, to_z-of_z c.ranges.adjustment, to_z-of_z (without_payment here.Start)) (moved here.Start)

pub returns : goal.returns
returns c =
    let here = goal.at.returns c in
    simp (to_z-of_z c.ranges.outstanding, to_z-of_z c.ranges.payment, to_z-of_z c.ranges.adjustment, to_z-of_z (without_payment here.Start), to_z-of_z (moved here.Start))
