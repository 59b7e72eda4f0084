-- A negative part is counted from −1 downward; the laws are in Ratios.
use Rattle.std.proofs.Common.{◌^◌, ◌<◌, arith, to_z-of_z, w64}
use mir.Facts.{to_z_pos}
use Rattle.prepared_ratios.proofs.Ratios.{quotient-≤, downward-≤, downward_fits, floor_downward, floored_fits}
use Rattle.prepared_ratios.proofs.Divisor.floor_of.Goals as goal

pub returns-then-part-lt0 : goal.returns-then-part-lt0
returns-then-part-lt0 c =
    let a = c.args in
    let below = simp (to_z-of_z {w = w64} c.ranges.part) at c.if-part-lt0.true in
    let divided = simp (to_z-of_z c.ranges.part, to_z-of_z (downward_fits a.part below c.requires)) at c.divide-downward.ensures in
    let floored = floor_downward a.part below a.self.exposed.positive divided in
    let small : c.divide-downward.result.quotient < 2 ^ 63 = omega (arith, quotient-≤ a.self.exposed.positive divided, downward-≤ a.part below c.requires) in
    rw (to_z_pos w64 small, to_z-of_z (floored_fits c.requires floored)) floored
