-- A list of pairs, place by place, and the amounts that it tells.
use mathlib.Core.Path.{◌≡◌, refl, sym, ap, ap₂, ◌∙◌, subst}
use mathlib.Core.List.{List, [], ◌∷◌}
use Prim.Native.Nat.{ℕ, zero, suc, ◌+◌, ◌*◌, ◌≤◌, ◌<◌}
use native.Mathlib.Omega.{arith}
use lib.IntN.{ℤ, pos, ◌+ℤ◌, ◌*ℤ◌, nat_abs}
use lib.Ieee.{Float}
use lib.ListN.{length, get_or}
use Rattle.floats.specs.WholeNumbers.{WholeNumber, plus_zero, whole_number, float_of}
use Rattle.method.specs.Limits.{one_unit}
use Rattle.workbook.specs.Cells.{amount_of}
use Rattle.workbook.specs.Pairs.{whole_units, remaining_millionths, pairs}
use Rattle.workbook.specs.Agreement.{PairOf, amounts_told}
use Rattle.workbook.proofs.Pairs.{most_exact_amount, amount_of_pair, millionths_not_negative, millionths_below_unit, units_exact, millionths_exact, units_not_minus_zero, millionths_not_minus_zero}

pub pair_of_amount : (z : ℤ) → nat_abs z ≤ most_exact_amount → PairOf z (float_of (whole_units z)) (float_of (remaining_millionths z))
pair_of_amount z h = record {
  whole_units = whole_units z;
  remaining_millionths = remaining_millionths z;
  units_exact = units_exact z h;
  millionths_exact = millionths_exact z;
  together = amount_of_pair z;
  at_least_0 = millionths_not_negative z;
  at_most_999999 = millionths_below_unit z;
  units_no_minus_zero = units_not_minus_zero z h;
  millionths_no_minus_zero = millionths_not_minus_zero z;
}

-- ---- Pair j of a list

units_at : (amounts : List ℤ) (j : ℕ) → j < length amounts → get_or (pairs amounts) (2 * j) plus_zero ≡ float_of (whole_units (get_or amounts j (pos 0)))
unfolding pairs
units_at [] j h = absurd (omega arith)
units_at (z ∷ amounts) zero h = refl
units_at (z ∷ amounts) (suc j) h =
    let e : 2 * suc j ≡ suc (suc (2 * j)) = omega arith in
    ap (λ (x : ℕ). get_or (pairs (z ∷ amounts)) x plus_zero) e ∙ units_at amounts j (omega arith)

millionths_at : (amounts : List ℤ) (j : ℕ) → j < length amounts
    → get_or (pairs amounts) (2 * j + 1) plus_zero ≡ float_of (remaining_millionths (get_or amounts j (pos 0)))
unfolding pairs
millionths_at [] j h = absurd (omega arith)
millionths_at (z ∷ amounts) zero h = refl
millionths_at (z ∷ amounts) (suc j) h =
    let e : 2 * suc j + 1 ≡ suc (suc (2 * j + 1)) = omega arith in
    ap (λ (x : ℕ). get_or (pairs (z ∷ amounts)) x plus_zero) e ∙ millionths_at amounts j (omega arith)

-- every amount of a list is within what floats hold exactly
abbrev pub AllExact : List ℤ → Type 0
AllExact amounts = (j : ℕ) → j < length amounts → nat_abs (get_or amounts j (pos 0)) ≤ most_exact_amount

pub pair_in_list : (amounts : List ℤ) → AllExact amounts → (j : ℕ) → j < length amounts
    → PairOf (get_or amounts j (pos 0)) (get_or (pairs amounts) (2 * j) plus_zero) (get_or (pairs amounts) (2 * j + 1) plus_zero)
pair_in_list amounts exact j h =
    let z = get_or amounts j (pos 0) in
    subst (λ (u : Float). PairOf z u (get_or (pairs amounts) (2 * j + 1) plus_zero)) (sym (units_at amounts j h))
    (subst (λ (m : Float). PairOf z (float_of (whole_units z)) m) (sym (millionths_at amounts j h)) (pair_of_amount z (exact j h)))

-- ---- The pairs tell the amounts

amount_told : (z : ℤ) → nat_abs z ≤ most_exact_amount
    → amount_of (whole_number (float_of (whole_units z))) *ℤ one_unit +ℤ amount_of (whole_number (float_of (remaining_millionths z))) ≡ z
amount_told z h =
    ap₂ (λ (u m : WholeNumber). amount_of u *ℤ one_unit +ℤ amount_of m) (units_exact z h) (millionths_exact z)
    ∙ sym (amount_of_pair z)

pub amounts_told_by_pairs : (amounts : List ℤ) → AllExact amounts → amounts_told (pairs amounts) ≡ amounts
unfolding pairs amounts_told
amounts_told_by_pairs [] exact = refl
amounts_told_by_pairs (z ∷ amounts) exact =
    ap₂ ◌∷◌ (amount_told z (exact 0 (omega arith))) (amounts_told_by_pairs amounts (λ j h. exact (suc j) (omega arith)))
