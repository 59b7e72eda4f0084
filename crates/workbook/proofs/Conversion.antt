-- The amounts of a list of cells, place by place and cell by cell.
use mathlib.Core.Path.{◌≡◌, refl, sym, ap, ◌∙◌}
use mathlib.Core.Bool.{Bool, cond}
use mathlib.Core.List.{List, [], ◌∷◌}
use Prim.Native.Nat.{ℕ, zero, suc}
use native.Mathlib.Omega.{arith}
use borrow.Author.Tests.{eq-eqb, ne_eqb}
use lib.IntN.{ℤ, pos}
use lib.Ieee.{Float, nan}
use lib.ListN.{length, get_or}
use Rattle.method.specs.Triangle.{cell}
use Rattle.workbook.specs.Cells.{blank, number, workbook_cell, amount_of, amount}
use Rattle.workbook.specs.Workbook.{CellList, cell_at, amounts_of, amounts}
use Rattle.workbook.specs.Questions.{n}
use Rattle.workbook.specs.Agreement.{CellConverted, ConvertedCellByCell}

pub amounts_same_length : (kinds : List ℕ) (numbers : List Float) → length kinds ≡ length numbers → length (amounts_of kinds numbers) ≡ length numbers
unfolding amounts_of
amounts_same_length [] [] e = refl
amounts_same_length [] (x ∷ numbers) e = absurd (omega (arith, e))
amounts_same_length (kind ∷ kinds) [] e = absurd (omega (arith, e))
amounts_same_length (kind ∷ kinds) (x ∷ numbers) e = ap suc (amounts_same_length kinds numbers (omega (arith, e)))

pub amounts_hold : (kinds : List ℕ) (numbers : List Float) → length kinds ≡ length numbers → (j : ℕ)
    → get_or (amounts_of kinds numbers) j (pos 0) ≡ amount (workbook_cell (get_or kinds j 0) (get_or numbers j nan))
unfolding amounts_of
amounts_hold [] [] e j = refl
amounts_hold [] (x ∷ numbers) e j = absurd (omega (arith, e))
amounts_hold (kind ∷ kinds) [] e j = absurd (omega (arith, e))
amounts_hold (kind ∷ kinds) (x ∷ numbers) e zero = refl
amounts_hold (kind ∷ kinds) (x ∷ numbers) e (suc j) = amounts_hold kinds numbers (omega (arith, e)) j

-- ---- Cell by cell

cell_amount : (n : ℕ) (c : CellList) → length c.kinds ≡ length c.numbers → (i k : ℕ) → cell (pos 0) n (amounts c) i k ≡ amount (cell_at n c i k)
unfolding cell
cell_amount n c e zero k = refl
cell_amount n c e (suc r) zero = refl
cell_amount n c e (suc r) (suc j) = amounts_hold c.kinds c.numbers e _

cell_converted : (kind : ℕ) (x : Float) (z : ℤ) → z ≡ amount (workbook_cell kind x) → CellConverted kind x z
cell_converted kind x z is = record {
  of_blank = λ e. is ∙ ap (λ (b : Bool). amount (cond b blank (number x))) (eq-eqb kind 0 e);
  of_number = λ h y w. is ∙ ap (λ (b : Bool). amount (cond b blank (number x))) (ne_eqb kind 0 h) ∙ ap amount_of w;
}

pub converted_by_cell : ConvertedCellByCell
converted_by_cell b f p l = record {
  payment = λ i k. cell_converted _ _ _ (cell_amount (n b) b.payments (l.payment_kinds ∙ sym l.payments) i k);
  adjustment = λ i k. cell_converted _ _ _ (cell_amount (n b) b.adjustments (l.adjustment_kinds ∙ sym l.adjustments) i k);
}
