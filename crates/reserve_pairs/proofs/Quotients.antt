-- The quotient by a unit whose remainder is not negative is the units, and that remainder the millionths.
use Rattle.std.proofs.Common.{◌≡◌, suc, ◌-◌, ◌/◌, ◌%◌, ℤ, pos, negsuc, arith}
use Rattle.std.specs.Int.{int_div_euclid, int_rem_euclid}
use native.Mathlib.Nat.{div-add-mod'}
use Rattle.integers.proofs.RingSolver.{con, ◌:+◌, ◌:*◌, neg}
use Rattle.integers.proofs.LinearFacts.{≡-by, ≤ℤ-by, <ℤ-by}
use Rattle.method.specs.Limits.{one_unit}
use Rattle.workbook.specs.Pairs.{whole_units, remaining_millionths}
use Rattle.workbook.proofs.Pairs.{pair_unique}

pub pair_by_euclid : (z : ℤ) → (int_div_euclid z one_unit ≡ whole_units z) × (int_rem_euclid z one_unit ≡ remaining_millionths z)
pair_by_euclid (pos a) =
    let q = a / 1_000_000 in
    let r = a % 1_000_000 in
    pair_unique (pos a) (pos q) (pos r)
    (≡-by (con (pos a)) (con (pos q) :* con one_unit :+ con (pos r)) (omega (arith, div-add-mod' a 1_000_000)))
    (≤ℤ-by (con (pos 0)) (con (pos r)) (omega arith))
    (<ℤ-by (con (pos r)) (con one_unit) (omega (arith)))
pair_by_euclid (negsuc a) =
    let q = a / 1_000_000 in
    let r = 1_000_000 - 1 - a % 1_000_000 in
    pair_unique (negsuc a) (negsuc q) (pos r)
    (≡-by (con (negsuc a)) (neg (con (pos (suc q))) :* con one_unit :+ con (pos r)) (omega (arith, div-add-mod' a 1_000_000)))
    (≤ℤ-by (con (pos 0)) (con (pos r)) (omega arith))
    (<ℤ-by (con (pos r)) (con one_unit) (omega arith))
