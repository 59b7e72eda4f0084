-- Where a heading stands among the lines of a text, and what it says.
use Rattle.std.specs.Prelude.{◌≡◌, Bool, ◌&&◌, cond, List, [], ◌∷◌, ℕ, suc, ◌+◌, ◌-◌, ◌≤◌, leb, eqb, length, ℤ, Option, None, Some, Result, Ok, Err}
use Rattle.figures.specs.Bytes.{bytes}
use Rattle.figures.specs.Reading.{figure_of}
use Rattle.figures.specs.declared.reading.NoFigure.{NoFigure}
use Rattle.text.specs.Lines.{lines, first_of, others_of, after_lines, IsPart}
use Rattle.line_parts.specs.Words.{word}
use Rattle.line_kinds.specs.Kinds.{is_either, kind_of, is_heading, same_kind}
use Rattle.line_kinds.specs.declared.kinds.LineKind as kinds
use Rattle.line_kinds.specs.declared.kinds.LineKind.{LineKind}
use Rattle.headings.specs.declared.places.Heading.{Heading}

-- The lines from the first one on that is this heading; none where there is no such heading.
unfoldable pub from_heading : ℕ → LineKind → List (List ℕ) → List (List ℕ)
from_heading separator heading [] = []
from_heading separator heading (line ∷ lines) =
    cond (same_kind (kind_of separator line) heading) (line ∷ lines) (from_heading separator heading lines)

-- Its number, after so many lines, counted from 1; 0 where there is no such heading.
unfoldable pub number_after_lines : ℕ → LineKind → ℕ → List (List ℕ) → ℕ
number_after_lines separator heading number [] = 0
number_after_lines separator heading number (line ∷ lines) =
    cond (same_kind (kind_of separator line) heading) (suc number) (number_after_lines separator heading (suc number) lines)

abbrev pub line_number : ℕ → LineKind → List (List ℕ) → ℕ
line_number separator heading lines = number_after_lines separator heading 0 lines

-- The heading's line, empty where there is none, and the lines after it.
abbrev pub heading_line : ℕ → LineKind → List (List ℕ) → List ℕ
heading_line separator heading lines = first_of (from_heading separator heading lines)

abbrev pub lines_under : ℕ → LineKind → List (List ℕ) → List (List ℕ)
lines_under separator heading lines = others_of (from_heading separator heading lines)

-- The line of a heading that is found or not, the lines from there on, and its separator.
abbrev pub line_of : Option Heading → ℕ
line_of None = 0
line_of (Some heading) = heading.line

abbrev pub lines_from : Option Heading → List (List ℕ)
lines_from None = []
lines_from (Some heading) = heading.content.bytes.now ∷ lines heading.rows.rest.now

abbrev pub separator_or : ℕ → Option Heading → ℕ
separator_or separator None = separator
separator_or separator (Some heading) = heading.content.separator

-- The text from the line of a heading that is found on, and what is left of it after that line, counted in lines; empty where it is not found.
abbrev pub text_from : List ℕ → Option Heading → List ℕ
text_from text None = []
text_from text (Some heading) = after_lines (heading.line - 1) text

abbrev pub text_under : List ℕ → Option Heading → List ℕ
text_under text None = []
text_under text (Some heading) = after_lines heading.line text

-- What is left of a text after a heading that is found or not.
abbrev pub rows_of : Option Heading → List ℕ
rows_of None = []
rows_of (Some heading) = heading.rows.rest.now

-- What is found of a heading in a text. The text from its line on, and what is left after it, are parts of the text;
-- the line's number is no more than the bytes before what is left.
pub record HeadingFound (text : List ℕ) (separator : ℕ) (heading : LineKind) (r : Option Heading) : Type 0 where
  pub line_is : line_of r ≡ line_number separator heading (lines text)
  pub lines_are : lines_from r ≡ from_heading separator heading (lines text)
  pub separator_is : separator_or separator r ≡ separator
  pub from_there : lines (text_from text r) ≡ from_heading separator heading (lines text)
  pub from_part : IsPart text (text_from text r)
  pub rows_are : rows_of r ≡ text_under text r
  pub rows_part : IsPart text (rows_of r)
  pub line_within : line_of r + length (rows_of r) ≤ length text

-- ---- What the lines under a heading and its words say

-- rows before the next heading, with a line of this kind before them
abbrev pub counted : LineKind → ℕ → ℕ
counted kinds.TheVariants.Blank rows = rows
counted kinds.TheVariants.Separators rows = rows
counted kinds.TheVariants.Payments rows = 0
counted kinds.TheVariants.Adjustments rows = 0
counted kinds.TheVariants.Weights rows = 0
counted kinds.TheVariants.Openings rows = 0
counted kinds.TheVariants.Cut rows = 0
counted kinds.TheVariants.Cell rows = 0
counted kinds.TheVariants.Row rows = suc rows
counted kinds.TheVariants.Unknown rows = 0

-- The number of rows up to the next heading.
unfoldable pub rows_in : ℕ → List (List ℕ) → ℕ
rows_in separator [] = 0
rows_in separator (line ∷ lines) = counted (kind_of separator line) (rows_in separator lines)

abbrev pub whole_or : ℤ → Result ℤ NoFigure → ℤ
whole_or other (Ok number) = number
whole_or other (Err fault) = other

-- The number that the heading's word of this number is, or another where there is no such heading.
unfoldable pub number_after : ℕ → LineKind → ℕ → ℤ → List (List ℕ) → ℤ
number_after separator heading number other lines = whole_or other (figure_of (word separator number (heading_line separator heading lines)))

-- The two names of cumulated figures.
abbrev pub says_cumulated : List ℕ → Bool
says_cumulated name = is_either name (bytes "cumulated") (bytes "cumulative")

unfoldable pub is_cumulated : ℕ → LineKind → List (List ℕ) → Bool
is_cumulated separator heading lines = says_cumulated (word separator 1 (heading_line separator heading lines))

-- ---- Where a row stands

-- a number that is 0 where there is none
abbrev pub line_there : ℕ → Option ℕ
line_there line = cond (eqb line 0) None (Some line)

-- the number of the row sought, after a line that is a row or not
abbrev pub left_after : Bool → ℕ → ℕ
left_after row left = cond row (left - 1) left

-- the number of the line of a row, after so many lines and up to the next heading; 0 where there are fewer rows
unfoldable pub row_line_after : ℕ → ℕ → ℕ → List (List ℕ) → ℕ
row_line_after separator number left [] = 0
row_line_after separator number left (line ∷ lines) =
    let row : Bool = same_kind (kind_of separator line) kinds.TheVariants.Row in
    cond (is_heading (kind_of separator line)) 0
    (cond (row && leb left 1) (suc number) (row_line_after separator (suc number) (left_after row left) lines))

-- The number of the line of a row under a heading, both counted from 1; 0 where there are fewer rows.
abbrev pub row_line : ℕ → LineKind → ℕ → List (List ℕ) → ℕ
row_line separator heading row lines = row_line_after separator (line_number separator heading lines) row (lines_under separator heading lines)
