-- The call, and its verdict as a number and a place.
use Rattle.std.proofs.Common.{to_z-of_z}
use Rattle.juniperprow.proofs.HostVerdicts.{reserve_answered}
use Rattle.juniperprow.proofs.juniperprow_reserve.Goals as goal

pub returns : goal.returns
returns c =
    let e = simp (to_z-of_z c.ranges.years, to_z-of_z c.ranges.cut) at c.reserve.ensures in
    reserve_answered _ _ _ (e.whole, (e.demand_1, (e.demand_2, e.demand_3))) c.from.result c.from.ensures
