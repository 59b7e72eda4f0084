-- The numbers under a heading, row after row.
use Rattle.std.specs.Prelude.{◌≡◌, Bool, false, cond, List, [], ◌∷◌, ◌++◌, ℕ, zero, suc, ◌+◌, ◌-◌, ◌≤◌, ltb, ℤ, pos, length, Result, Ok, Err}
use Rattle.std.specs.List.{All}
use Rattle.text.specs.Bytes.{longest_text}
use Rattle.line_kinds.specs.Kinds.{kind_of, is_heading, same_kind}
use Rattle.line_kinds.specs.declared.kinds.LineKind.{LineKind}
use Rattle.line_kinds.specs.declared.kinds.LineKind.TheVariants.{Row}
use Rattle.heading_faults.specs.declared.WrongLine.{WrongLine}
use Rattle.row_text.specs.Rows.{with_numbers, row_numbers, openings_numbers, ReadAs}
use Rattle.row_text.specs.declared.rows.WrongCell.{WrongCell}
use Rattle.method.specs.Limits.{most_accident_years}
use Rattle.method.specs.Triangle.{amounts_length}
use Rattle.blocks.specs.declared.faults.Expected.{Expected}
use Rattle.blocks.specs.declared.faults.Expected.TheVariants.{InHeading, InCell, NoFurtherRow}
use Rattle.blocks.specs.declared.faults.Fault.{Fault}
use Rattle.blocks.specs.declared.lines.Shape.{Shape}
use Rattle.blocks.specs.declared.lines.Shape.TheVariants.{Triangle, Openings}

-- The numbers of a block, or its first fault.
abbrev pub Block : Type 0
Block = Result (List ℤ) Fault

-- the line, the cell, 0 where the whole line is meant, and what was expected there
abbrev pub faulty : ℕ → ℕ → Expected → Block
faulty line cell expected = Err record { line = line; cell = cell; expected = expected }

-- the fault of a whole line
abbrev pub of_heading : WrongLine → Fault
of_heading wrong = record { line = wrong.line; cell = 0; expected = InHeading wrong.expected }

-- a block that goes on after the numbers of a row
abbrev pub then_rows : Block → (List ℤ → Block) → Block
then_rows (Ok first) others = with_numbers first (others first)
then_rows (Err fault) others = Err fault

-- what was read of a row, at the line of this number
abbrev pub at_line : {A : Type 0} → ℕ → Result A WrongCell → Result A Fault
at_line number (Ok read) = Ok read
at_line number (Err wrong) = Err record { line = number; cell = wrong.cell; expected = InCell wrong.expected }

-- A row after so many others, at the line of this number. Row i of a triangle of n rows has n + 1 − i numbers,
-- and its first Y − i cells, where i + k is at most Y, are missing. Of openings there may be as many as there is still room for.
abbrev pub row_in : ℕ → Shape → ℕ → ℕ → ℕ → List ℕ → Block
row_in separator (Triangle t) number rows room line =
    cond (ltb rows t.n) (at_line number (row_numbers separator (t.cut - suc rows) t.cumulated false (t.n - rows) line)) (faulty number 0 NoFurtherRow)
row_in separator Openings number rows room line = at_line number (openings_numbers separator room line)

-- a line that is such a row, or else blank, and the number of rows after it
abbrev pub line_in : ℕ → Shape → ℕ → ℕ → ℕ → List ℕ → Bool → Block
line_in separator shape number rows room line row = cond row (row_in separator shape number rows room line) (Ok [])

abbrev pub rows_after : Bool → ℕ → ℕ
rows_after row rows = cond row (suc rows) rows

abbrev pub is_row : LineKind → Bool
is_row kind = same_kind kind Row

-- The lines after so many lines of the text and so many rows of the block, with room for so many numbers, up to the next heading.
unfoldable pub block_from : ℕ → Shape → ℕ → ℕ → ℕ → List (List ℕ) → Block
block_from separator shape number rows room [] = Ok []
block_from separator shape number rows room (line ∷ lines) =
    let row : Bool = is_row (kind_of separator line) in
    cond (is_heading (kind_of separator line))
    (Ok [])
    (then_rows (line_in separator shape (suc number) rows room line row)
    (λ first. block_from separator shape (suc number) (rows_after row rows) (room - length first) lines))

-- ---- Weights where the text gives none

-- a row of so many cells, of which the first are missing: 0 where missing, and else 1
unfoldable pub default_row : ℕ → ℕ → List ℤ
default_row missing zero = []
default_row zero (suc cells) = pos 1 ∷ default_row zero cells
default_row (suc missing) (suc cells) = pos 0 ∷ default_row missing cells

-- so many rows after others
unfoldable pub default_from : ℕ → ℕ → ℕ → List ℤ
default_from Y rows zero = []
default_from Y rows (suc left) = default_row (Y - suc rows) (suc left) ++ default_from Y (suc rows) left

abbrev pub default_weights : ℕ → ℕ → List ℤ
default_weights n Y = default_from Y 0 n

-- ---- What the functions ask and answer

-- room for what is left of a triangle after so many rows, or for openings
abbrev pub Room : Shape → ℕ → ℕ → Type 0
Room (Triangle t) rows room = (t.n ≤ most_accident_years) × (amounts_length (t.n - rows) ≤ room)
Room Openings rows room = room ≤ most_accident_years

-- Lines that come after so many, in all at most 65,536 of as many bytes, and room for their numbers.
pub record LinesInput (rows : List (List ℕ)) (number : ℕ) (shape : Shape) (room : ℕ) : Type 0 where
  pub lines_short : All (λ (line : List ℕ). length line ≤ longest_text) rows
  pub few_lines : number + length rows ≤ longest_text
  pub room_for_all : Room shape 0 room

-- The answer on a row, after which there are so many rows; where it has no fault, there is room for what is left.
pub record RowRead (shape : Shape) (rows : ℕ) (meaning : Block) (r : Result ℕ Fault) (list : List ℤ) : Type 0 where
  pub read : ReadAs meaning r list
  pub room_left : (count : ℕ) → r ≡ Ok count → Room shape rows (length list - count)
