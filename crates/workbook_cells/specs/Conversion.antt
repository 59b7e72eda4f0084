-- A cell as the code has it, and the amounts that it stores.
use Rattle.std.specs.Prelude.{Bool, true, ◌&&◌, cond, List, ℕ, zero, suc, leb, ℤ, pos, ◌+ℤ◌, nat_abs, Float, get_or, Option, Some, None}
use Rattle.std.specs.Float.{nan}
use Rattle.floats.specs.WholeNumbers.{WholeNumber, the, none, whole_number}
use Rattle.floats.specs.Reading.{most_exact}
use Rattle.method.specs.Limits.{greatest_amount}
use Rattle.workbook.specs.Cells.{WorkbookCell, blank, number, workbook_cell, whole_or_blank}
use Rattle.workbook_cells.specs.declared.Cell.{Cell}
use Rattle.workbook_cells.specs.declared.Cell.TheVariants.{Blank, Number}

abbrev pub cell_told : Cell → WorkbookCell
cell_told Blank = blank
cell_told (Number x) = number x

-- What is stored of a whole number: the number itself, and beyond 2^53 one that question 5 refuses as it would the number.
-- Laws: `amount_stored` and `right_as_stored` in proofs/Stored.antt.
abbrev pub stored : ℤ → ℤ
stored z = cond (leb (nat_abs z) most_exact) z (greatest_amount +ℤ pos 1)

abbrev pub number_told : WholeNumber → Option ℤ
number_told (the z) = Some (stored z)
number_told none = None

abbrev pub amount_told : WorkbookCell → Option ℤ
amount_told blank = Some (pos 0)
amount_told (number x) = number_told (whole_number x)

-- questions 11 and 12 of one cell, and of the first so many cells of a list
abbrev pub convertible : ℕ → Float → Bool
convertible kind x = leb kind 1 && whole_or_blank (workbook_cell kind x)

unfoldable pub all_convertible : ℕ → List ℕ → List Float → Bool
all_convertible zero kinds numbers = true
all_convertible (suc j) kinds numbers = all_convertible j kinds numbers && convertible (get_or kinds j 0) (get_or numbers j nan)
