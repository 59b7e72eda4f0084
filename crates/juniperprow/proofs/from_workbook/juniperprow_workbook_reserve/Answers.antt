-- The call, and its verdict as a number and a place.
use Rattle.std.proofs.Common.{to_z-of_z}
use Rattle.juniperprow.proofs.HostVerdicts.{workbook_answered}
use Rattle.juniperprow.proofs.from_workbook.juniperprow_workbook_reserve.Goals as goal

pub returns : goal.returns
returns c =
    let e = simp (to_z-of_z c.ranges.years, to_z-of_z c.ranges.cut) at c.workbook_reserve.ensures in
    workbook_answered _ _ _ (e.whole, (e.demand_1, e.agrees)) c.from.result c.from.ensures
