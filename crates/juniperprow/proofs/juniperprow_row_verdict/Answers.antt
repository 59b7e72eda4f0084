-- The call, and its verdict as a number and a place.
use Rattle.std.proofs.Common.{to_z-of_z}
use Rattle.juniperprow.proofs.HostVerdicts.{row_answered}
use Rattle.juniperprow.proofs.juniperprow_row_verdict.Goals as goal

pub returns : goal.returns
returns c =
    let e = simp (to_z-of_z c.ranges.years, to_z-of_z c.ranges.accident_year) at c.row_verdict.ensures in
    row_answered _ _ _ _ (e.whole, e.demand_1) c.from.result c.from.ensures
