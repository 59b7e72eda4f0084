-- Ticket 1 of document 02: a cell of the workbook, and the whole number that it stands for.
use Rattle.std.specs.Prelude.{Bool, true, false, cond, ℕ, eqb, ℤ, pos, Float}
use Rattle.floats.specs.WholeNumbers.{WholeNumber, the, none, whole_number, is_whole}

-- "A cell is either blank or carries its number."
pub data WorkbookCell : Type 0 where
  blank : WorkbookCell
  number : Float → WorkbookCell

-- Of a kind byte, "0 for blank, 1 for a number", and the float beside it: "the float beside it is not read" where the cell is blank.
-- A kind byte above 1 is refused by question 11, before any number is looked at; here it carries its number.
abbrev pub workbook_cell : ℕ → Float → WorkbookCell
workbook_cell kind x = cond (eqb kind 0) blank (number x)

-- A number that is not whole is refused by question 12, and is 0 here.
abbrev pub amount_of : WholeNumber → ℤ
amount_of (the z) = z
amount_of none = pos 0

-- "A blank stands for a missing cell and becomes 0", and "A whole number is converted without loss, and minus zero is 0."
abbrev pub amount : WorkbookCell → ℤ
amount blank = pos 0
amount (number x) = amount_of (whole_number x)

-- ---- What is asked of a cell

abbrev pub is_blank : WorkbookCell → Bool
is_blank blank = true
is_blank (number x) = false

-- a number that is finite and whole, or no number
abbrev pub whole_or_blank : WorkbookCell → Bool
whole_or_blank blank = true
whole_or_blank (number x) = is_whole (whole_number x)
