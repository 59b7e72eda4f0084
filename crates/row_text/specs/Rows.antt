-- The numbers of a row of text, cell after cell.
use Rattle.std.specs.Prelude.{◌≡◌, Bool, true, false, ◌&&◌, cond, List, [], ◌∷◌, ◌++◌, ℕ, zero, suc, ◌+◌, ◌≤◌, ◌==◌, ltb, ℤ, pos, length, take, count_by, Result, Ok, Err}
use Rattle.std.specs.Bool.{then_some}
use Rattle.figures.specs.Reading.{figure_of}
use Rattle.text.specs.Bytes.{longest_text}
use Rattle.text.specs.Search.{is_content, before}
use Rattle.line_parts.specs.Cells.{is_empty, first_cell, after_cell, from_content}
use Rattle.row_text.specs.Entries.{entry_of}
use Rattle.row_text.specs.declared.entries.CellFault.{CellFault}
use Rattle.row_text.specs.declared.entries.CellFault.TheVariants.{RowEnd, NoFurtherOpening}
use Rattle.row_text.specs.declared.entries.Entry.{Entry}
use Rattle.row_text.specs.declared.rows.WrongCell.{WrongCell}

-- The numbers of a row, or its first cell, counted from 1, that is wrong.
abbrev pub RowNumbers : Type 0
RowNumbers = Result (List ℤ) WrongCell

abbrev pub wrong : ℕ → CellFault → RowNumbers
wrong cell expected = Err record { cell = cell; expected = expected }

-- with numbers before them
abbrev pub with_numbers : {E : Type 0} → List ℤ → Result (List ℤ) E → Result (List ℤ) E
with_numbers first (Ok later) = Ok (first ++ later)
with_numbers first (Err wrong_there) = Err wrong_there

-- what the cell of this number holds
abbrev pub at_cell : ℕ → Result Entry CellFault → Result Entry WrongCell
at_cell cell (Ok entry) = Ok entry
at_cell cell (Err expected) = Err record { cell = cell; expected = expected }

-- a row that goes on after an entry, by its figure
abbrev pub after_entry : Result Entry WrongCell → (ℤ → RowNumbers) → RowNumbers
after_entry (Ok entry) others = with_numbers (entry.amount ∷ []) (others entry.figure)
after_entry (Err wrong_cell) others = Err wrong_cell

-- how often a byte stands in a text
abbrev pub occurrences : ℕ → List ℕ → ℕ
occurrences byte text = count_by (λ other. other == byte) text

-- a row of openings ends where nothing but blank cells is left of its line, another row only when it has its numbers
abbrev pub ends_here : Bool → List ℕ → Bool
ends_here openings content = openings && is_empty content

module _ (separator : ℕ) where
  -- What is left of a line after its last number, in so many cells, from its first byte on that is neither a space nor a separator.
  abbrev pub ended : Bool → ℕ → List ℕ → List ℕ → RowNumbers
  ended openings cells rest [] = Ok []
  ended true cells rest (byte ∷ others) = wrong (cells + 1) NoFurtherOpening
  ended false cells rest (byte ∷ others) = wrong (cells + 1 + occurrences separator (before (is_content separator) rest)) RowEnd

  -- so many numbers of what is left of a line, or at most so many openings, after so many cells and a figure; of all cells some are missing
  unfoldable pub numbers_from : ℕ → Bool → Bool → ℕ → ℕ → ℤ → List ℕ → RowNumbers
  numbers_from missing cumulated openings zero cells figure rest = ended openings cells rest (from_content separator rest)
  numbers_from missing cumulated openings (suc left) cells figure rest =
      cond (ends_here openings (from_content separator rest))
      (Ok [])
      (after_entry (at_cell (suc cells) (entry_of (figure_of (first_cell separator rest)) (ltb cells missing) (then_some cumulated figure)))
      (λ next. numbers_from missing cumulated openings left (suc cells) next (after_cell separator rest)))

  -- A row of so many numbers, or of at most so many openings. The cells that follow are blank, and its first cells, as many as are missing, may be.
  abbrev pub row_numbers : ℕ → Bool → Bool → ℕ → List ℕ → RowNumbers
  row_numbers missing cumulated openings count line = numbers_from missing cumulated openings count 0 (pos 0) line

  -- A row of as many openings as it has cells, but for blank ones at its end; there is room for so many.
  abbrev pub openings_numbers : ℕ → List ℕ → RowNumbers
  openings_numbers = row_numbers 0 false true

-- ---- What the functions ask and answer

-- A line of a text of at most 65,536 bytes, and a list with room for at most 32 numbers.
pub record RowInput (line : List ℕ) (list : List ℤ) : Type 0 where
  pub line_short : length line ≤ longest_text
  pub list_short : length list ≤ 32

-- how many numbers, after so many; what is wrong, as it is
abbrev pub counted_from : {E : Type 0} → ℕ → Result (List ℤ) E → Result ℕ E
counted_from count (Ok others) = Ok (count + length others)
counted_from count (Err wrong_there) = Err wrong_there

-- The answer on numbers that were read into a list: how many stand from its left, or what is wrong. What stands behind them is left open.
pub record ReadAs {E : Type 0} (meaning : Result (List ℤ) E) (r : Result ℕ E) (list : List ℤ) : Type 0 where
  pub read_is : r ≡ counted_from 0 meaning
  pub numbers_are : (others : List ℤ) → meaning ≡ Ok others → take (length others) list ≡ others
