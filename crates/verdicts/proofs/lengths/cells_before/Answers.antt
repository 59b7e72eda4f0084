-- The rows that are left end the list.
use Prim.Native.Nat.{◌-◌}
use native.Mathlib.Omega.{arith}
use Rattle.method.proofs.Positions.{cells_before_is}
use Rattle.verdicts.proofs.lengths.cells_before.Goals as goal

pub returns : goal.returns
returns c =
    let left = cells_before_is c.args.n c.args.r (c.args.n - c.args.r) (omega (arith, c.requires)) in
    omega (arith, left.0, c.amounts_length.ensures, c.amounts_length-2.ensures)
