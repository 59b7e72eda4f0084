-- Ticket 1 of document 02: what a call with a workbook's cells lends, and the triangle that it is converted to.
use Rattle.std.specs.Prelude.{List, [], ◌∷◌, ℕ, ◌*◌, ℤ, Float}
use Rattle.std.specs.Float.{nan}
use Rattle.method.specs.Triangle.{Triangle, cell}
use Rattle.workbook.specs.Cells.{WorkbookCell, workbook_cell, amount}

-- "Each cell of the two amount lists comes with a kind byte": a list of kind bytes and one of 64-bit floats, in the order of document 01's lists.
pub record CellList : Type 0 where
  pub kinds : List ℕ
  pub numbers : List Float

-- The rest is lent as document 01 says.
pub record Workbook : Type 0 where
  pub years : ℤ
  pub cut : ℤ
  pub payments : CellList
  pub adjustments : CellList
  pub weights : List ℤ
  pub openings : List ℤ

-- ---- Cells

-- the kind byte and the float of cell (i, k), for n years, and the cell
abbrev pub kind_at : ℕ → CellList → ℕ → ℕ → ℕ
kind_at n c = cell 0 n c.kinds

abbrev pub number_at : ℕ → CellList → ℕ → ℕ → Float
number_at n c = cell nan n c.numbers

abbrev pub cell_at : ℕ → CellList → ℕ → ℕ → WorkbookCell
cell_at n c i k = workbook_cell (kind_at n c i k) (number_at n c i k)

-- ---- The converted triangle

-- one amount for each kind byte and float, up to the shorter of both lists; question 3 sees to it that they are of the same length
unfoldable pub amounts_of : List ℕ → List Float → List ℤ
amounts_of [] numbers = []
amounts_of (kind ∷ kinds) [] = []
amounts_of (kind ∷ kinds) (x ∷ numbers) = amount (workbook_cell kind x) ∷ amounts_of kinds numbers

abbrev pub amounts : CellList → List ℤ
amounts c = amounts_of c.kinds c.numbers

abbrev pub converted : Workbook → Triangle
converted b = record {
  years = b.years;
  cut = b.cut;
  payments = amounts b.payments;
  adjustments = amounts b.adjustments;
  weights = b.weights;
  openings = b.openings;
}

-- ---- The length of the list of pairs, for n years: "6 × n floats that replace the reserve list"

abbrev pub pairs_length : ℕ → ℕ
pairs_length n = 6 * n
