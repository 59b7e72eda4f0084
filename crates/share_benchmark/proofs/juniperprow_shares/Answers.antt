-- The test of part and exposure, and the shares by their ratio.
use Rattle.std.proofs.Common.{◌≡◌, ◌&&◌, sym, ap₂, ◌∙◌, to_z-of_z, w64}
use Rattle.share_benchmark.specs.Shares.{in_limits, shares_answer, shares_of}
use Rattle.share_benchmark.proofs.InLimits.{exposure_is}
use Rattle.share_benchmark.proofs.juniperprow_shares.Goals as goal
use Rattle.share_benchmark.proofs.juniperprow_shares.Goals.{After-from_to-2}

-- both tests
tested : (c : After-from_to-2) → in_limits c.args.part c.args.exposure ≡ (c.from_to.result && c.from_to-2.result)
tested c =
    sym (ap₂ ◌&&◌ (simp (to_z-of_z {w = w64} c.ranges.part) at c.from_to.ensures) (simp (to_z-of_z {w = w64} c.ranges.exposure) at c.from_to-2.ensures))

pub returns-then-from_to : goal.returns-then-from_to
unfolding shares_answer shares_of
returns-then-from_to c =
    let within = tested (goal.at.returns-then-from_to c).After-from_to-2 ∙ c.if-from_to.true in
    let prepared = simp (to_z-of_z c.ranges.part) at c.ratio_of.ensures in
    let divisor = simp (to_z-of_z c.ranges.exposure) at c.of-divisor.ensures in
    let list = rw (prepared.1, divisor, exposure_is c.args.part c.args.exposure within) at c.take_shares.ensures in
    record { value = rw within; figures_after = rw within list }

pub returns : goal.returns
unfolding shares_answer shares_of
returns c =
    let no = tested (goal.at.returns c).After-from_to-2 ∙ c.if-from_to.false in
    record { value = rw no; figures_after = rw no }
