-- Units and millionths make up the amount, and no other pair with millionths from 0 to 999,999 does: units are a quotient rounded down.
-- Both are within 2^53 in size, and so exact as floats, for every amount of 64 bits and beyond.
use mathlib.Core.Path.{◌≡◌, refl, sym, ap, ap₂, ◌∙◌}
use mathlib.Core.List.{List, [], ◌∷◌, ◌++◌}
use Prim.Native.Nat.{ℕ, ◌*◌, ◌≤◌}
use native.Mathlib.Omega.{arith}
use lib.IntN.{ℤ, pos, ◌+ℤ◌, ◌-ℤ◌, ◌*ℤ◌, nat_abs}
use lib.ListN.{length}
use lib.Signed.{◌≤ℤ◌, ◌<ℤ◌, nat_abs-le}
use mir.Syntax.{w64}
use mir.Val.{SFits}
use Rattle.integers.proofs.RingSolver.{Expression, ring, ◌:=◌, con, ◌:+◌, ◌:-◌, ◌:*◌}
use Rattle.integers.proofs.LinearFacts.{integers, parts, ≤ℤ-by, <ℤ-by}
use Rattle.integers.proofs.Order.{nat_abs_parts, nat_abs_by}
use Rattle.integers.proofs.Rounding.{floor-≤, floor-<, floor_unique}
use Rattle.floats.specs.WholeNumbers.{the, whole_number, float_of, minus_zero}
use Rattle.floats.specs.Reading.{most_exact}
use Rattle.floats.proofs.ExactFloats.{float_exact, float_not_minus_zero}
use Rattle.method.specs.Limits.{one_unit}
use Rattle.workbook.specs.Pairs.{whole_units, remaining_millionths, pairs}

unit_positive : pos 0 <ℤ one_unit
unit_positive = <ℤ-by (con (pos 0)) (con one_unit) (omega arith)

-- ---- The pair of an amount

module _ (z : ℤ) where
  abbrev product : Expression
  product = con (whole_units z) :* con one_unit

  pub amount_of_pair : z ≡ whole_units z *ℤ one_unit +ℤ remaining_millionths z
  amount_of_pair = ring 2 (λ z p. z := p :+ (z :- p)) tt z (whole_units z *ℤ one_unit)

  pub millionths_not_negative : pos 0 ≤ℤ remaining_millionths z
  millionths_not_negative = ≤ℤ-by (con (pos 0)) (con z :- product) (omega (arith, integers, floor-≤ z one_unit unit_positive, parts product))

  pub millionths_below_unit : remaining_millionths z <ℤ one_unit
  millionths_below_unit =
      <ℤ-by (con z :- product) (con one_unit) (omega (arith, integers, floor-< z one_unit unit_positive, parts (product :+ con one_unit)))

pub pair_unique : (z units millionths : ℤ) → z ≡ units *ℤ one_unit +ℤ millionths → pos 0 ≤ℤ millionths → millionths <ℤ one_unit
    → (units ≡ whole_units z) × (millionths ≡ remaining_millionths z)
pair_unique z units millionths whole low high = (same, rest)
  where
    product : Expression
    product = con units :* con one_unit

    same : units ≡ whole_units z
    same =
        floor_unique z one_unit units unit_positive
        (≤ℤ-by product (con z) (omega (arith, integers, whole, parts (product :+ con millionths))))
        (<ℤ-by (con z) (product :+ con one_unit) (omega (arith, integers, whole, parts (product :+ con millionths))))

    rest : millionths ≡ remaining_millionths z
    rest = ring 2 (λ p m. m := (p :+ m) :- p) tt (units *ℤ one_unit) millionths ∙ ap₂ (λ (x y : ℤ). x -ℤ y *ℤ one_unit) (sym whole) same

-- ---- Exact as floats

-- 2^53 units
abbrev pub most_exact_amount : ℕ
most_exact_amount = most_exact * 1_000_000

pub amount_of_64_bits : (z : ℤ) → SFits w64 z → nat_abs z ≤ most_exact_amount
amount_of_64_bits z f = omega (arith, nat_abs-le z f.sfits)

pub millionths_in_range : (z : ℤ) → nat_abs (remaining_millionths z) ≤ most_exact
millionths_in_range z = nat_abs_by (con (remaining_millionths z)) most_exact (omega (arith, integers, millionths_not_negative z, millionths_below_unit z))

pub units_in_range : (z : ℤ) → nat_abs z ≤ most_exact_amount → nat_abs (whole_units z) ≤ most_exact
units_in_range z h =
    nat_abs_by (con (whole_units z)) most_exact
    (omega (arith, integers, nat_abs_parts z, floor-≤ z one_unit unit_positive, floor-< z one_unit unit_positive, parts (product z), parts (product z :+ con one_unit)))

pub units_exact : (z : ℤ) → nat_abs z ≤ most_exact_amount → whole_number (float_of (whole_units z)) ≡ the (whole_units z)
units_exact z h = float_exact (whole_units z) (units_in_range z h)

pub millionths_exact : (z : ℤ) → whole_number (float_of (remaining_millionths z)) ≡ the (remaining_millionths z)
millionths_exact z = float_exact (remaining_millionths z) (millionths_in_range z)

pub units_not_minus_zero : (z : ℤ) → nat_abs z ≤ most_exact_amount → float_of (whole_units z) ≡ minus_zero → ⊥
units_not_minus_zero z h = float_not_minus_zero (whole_units z) (units_in_range z h)

pub millionths_not_minus_zero : (z : ℤ) → float_of (remaining_millionths z) ≡ minus_zero → ⊥
millionths_not_minus_zero z = float_not_minus_zero (remaining_millionths z) (millionths_in_range z)

-- ---- Lists of pairs

pub length_pairs : (amounts : List ℤ) → length (pairs amounts) ≡ 2 * length amounts
unfolding pairs
length_pairs [] = refl
length_pairs (z ∷ amounts) = omega (arith, length_pairs amounts)

pub pairs_append : (first others : List ℤ) → pairs (first ++ others) ≡ pairs first ++ pairs others
unfolding pairs
pairs_append [] others = refl
pairs_append (z ∷ first) others = ap (λ rest. float_of (whole_units z) ∷ float_of (remaining_millionths z) ∷ rest) (pairs_append first others)
