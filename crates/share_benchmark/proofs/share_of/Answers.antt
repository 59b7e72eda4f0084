-- The test of the outstanding, the share, and the number that stands for it.
use Rattle.std.proofs.Common.{◌≡◌, pos, sym, ap, ◌∙◌, to_z-of_z, w64}
use Rattle.integers.proofs.MachineArithmetic.{held}
use Rattle.method.specs.Limits.{greatest_figure}
use Rattle.method.specs.Tests.{from_to}
use Rattle.share_benchmark.specs.Shares.{as_number, share_number}
use Rattle.share_benchmark.proofs.share_of.Goals as goal
use Rattle.share_benchmark.proofs.share_of.Goals.{After-from_to}

tested : (c : After-from_to) → from_to (pos 0) greatest_figure c.args.outstanding ≡ c.from_to.result
tested c = sym (simp (to_z-of_z {w = w64} c.ranges.outstanding) at c.from_to.ensures)

pub returns-then-from_to : goal.returns-then-from_to
unfolding share_number
returns-then-from_to c =
    let answer = simp (to_z-of_z {w = w64} c.ranges.outstanding) at c.rounded_share.ensures in
    rw (held c.number_of.result c.number_of.type_inv, tested (goal.at.returns-then-from_to c).After-from_to ∙ c.if-from_to.true) (c.number_of.ensures ∙ ap as_number answer)

pub returns : goal.returns
unfolding share_number
returns c = rw (tested (goal.at.returns c).After-from_to ∙ c.if-from_to.false)
