-- The quotient and the remainder whose remainder is not negative.
use Rattle.std.proofs.Common.{rules, ℤ, ap₂, ◌∙◌, to_z-of_z, w64}
use Rattle.integers.proofs.MachineArithmetic.{held}
use Rattle.floats.specs.WholeNumbers.{float_of}
use Rattle.reserve_pairs.proofs.Quotients.{pair_by_euclid}
use Rattle.reserve_pairs.proofs.PairFromMillionths.from.Goals as goal

pub returns : goal.returns
returns c =
    let pair = pair_by_euclid c.args.amount.0 in
    let units = simp (to_z-of_z {w = w64} {z = c.args.amount.0} (search rules)) at c.div_euclid.ensures in
    let millionths = simp (to_z-of_z {w = w64} {z = c.args.amount.0} (search rules)) at c.rem_euclid.ensures.value in
    ap₂ (λ (u m : ℤ). record { units = float_of u; millionths = float_of m })
    (held c.div_euclid.result c.div_euclid.type_inv ∙ units ∙ pair.0) (held c.rem_euclid.result c.rem_euclid.type_inv ∙ millionths ∙ pair.1)
