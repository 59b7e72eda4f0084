-- What is stored of a cell: its amount where that is within 2^53, and else a number that question 5 refuses as it would the amount.
use mathlib.Core.Path.{◌≡◌, refl, ap, sym, ◌∙◌}
use mathlib.Core.Bool.{Bool, true, false, cond}
use mathlib.Core.List.{List}
use Prim.Native.Nat.{ℕ, ◌≤◌, ◌<◌}
use native.Mathlib.Omega.{arith}
use borrow.Author.Tests.{le-leb, leb-false}
use lib.Dec.{leb, lit<}
use lib.IntN.{ℤ, pos, ◌+ℤ◌, nat_abs}
use lib.Ieee.{Float, nan}
use lib.ListN.{get_or}
use Rattle.std.specs.Prelude.{is_some, unwrap_or}
use Rattle.floats.specs.WholeNumbers.{WholeNumber, the, none, whole_number, is_whole}
use Rattle.floats.specs.Reading.{most_exact}
use Rattle.method.specs.Limits.{greatest_amount}
use Rattle.method.specs.Tests.{amount_right}
use Rattle.method.proofs.QuestionFacts.{amount_right_true}
use Rattle.workbook.specs.Cells.{WorkbookCell, blank, number, workbook_cell, amount, whole_or_blank}
use Rattle.workbook_cells.specs.Conversion.{stored, number_told, amount_told}

-- ---- What is told of a cell

-- the amount told, 0 where there is none, and whether there is one
pub value_told : (c : WorkbookCell) → unwrap_or (amount_told c) (pos 0) ≡ stored (amount c)
value_told blank = refl
value_told (number x) = go (whole_number x)
  where
    go : (w : WholeNumber) → unwrap_or (number_told w) (pos 0) ≡ stored (elim w [ the z ↦ z | none ↦ pos 0 ])
    go (the z) = refl
    go none = refl

pub has_value_told : (c : WorkbookCell) → is_some (amount_told c) ≡ whole_or_blank c
has_value_told blank = refl
has_value_told (number x) = go (whole_number x)
  where
    go : (w : WholeNumber) → is_some (number_told w) ≡ is_whole w
    go (the z) = refl
    go none = refl

-- ---- Question 5 of what is stored

-- Of every amount but those beyond 2^53 the amount itself is stored.
pub amount_stored : (z : ℤ) → nat_abs z ≤ most_exact → stored z ≡ z
amount_stored z h = ap (λ (b : Bool). cond b z (greatest_amount +ℤ pos 1)) (le-leb (nat_abs z) most_exact h)

out_of_range : (Y i k : ℕ) (x : ℤ) → nat_abs greatest_amount < nat_abs x → amount_right Y i k x ≡ false
out_of_range Y i k x h = go (amount_right Y i k x) refl
  where
    go : (b : Bool) → amount_right Y i k x ≡ b → b ≡ false
    go true e = absurd (let z : ⊥ = omega (arith, (amount_right_true Y i k x e).in_range) in z)
    go false e = refl

pub right_as_stored : (Y i k : ℕ) (z : ℤ) → amount_right Y i k (stored z) ≡ amount_right Y i k z
right_as_stored Y i k z = go (leb (nat_abs z) most_exact) refl
  where
    go : (b : Bool) → leb (nat_abs z) most_exact ≡ b → amount_right Y i k (cond b z (greatest_amount +ℤ pos 1)) ≡ amount_right Y i k z
    go true e = refl
    go false e = out_of_range Y i k (greatest_amount +ℤ pos 1) (lit< tt) ∙ sym (out_of_range Y i k z (omega (arith, leb-false (nat_abs z) most_exact e)))

-- ---- At a place of a list

abbrev pub StoredAt : List ℕ → List Float → ℕ → ℤ → Type 0
StoredAt kinds numbers place figure = figure ≡ stored (amount (workbook_cell (get_or kinds place 0) (get_or numbers place nan)))
