-- The first fault of the headings of a text, and of rows that stand under none. docs/FORMAT.md has the table of them.
use Rattle.std.specs.Prelude.{Bool, true, false, not, ◌&&◌, ◌||◌, cond, List, [], ◌∷◌, ℕ, suc, eqb, ℤ, Result, Ok, Err}
use Rattle.figures.specs.Bytes.{bytes}
use Rattle.figures.specs.Reading.{figure_of}
use Rattle.figures.specs.declared.reading.NoFigure.{NoFigure}
use Rattle.line_parts.specs.Cells.{is_empty}
use Rattle.line_parts.specs.Words.{word, is_word}
use Rattle.line_kinds.specs.Kinds.{kind_of, is_heading, has_rows}
use Rattle.headings.specs.Places.{line_number, says_cumulated}
use Rattle.line_kinds.specs.declared.kinds.LineKind.{LineKind}
use Rattle.line_kinds.specs.declared.kinds.LineKind.TheVariants.{Blank, Separators, Payments, Adjustments, Weights, Openings, Cut, Cell, Row, Unknown}
use Rattle.heading_faults.specs.declared.HeadingFault.{HeadingFault}
use Rattle.heading_faults.specs.declared.HeadingFault.TheVariants.{HeadingBeforeRow, FiguresInRow, KnownHeading, HeadingOnce, CumulatedOrIncremental, NothingAfterHeading, NumberAfterCut, YearsAfterCell}
use Rattle.heading_faults.specs.declared.WrongLine.{WrongLine}

-- What a check answers: nothing, or what was expected.
abbrev pub Checked : Type 0
Checked = Result (Unit {0}) HeadingFault

abbrev pub check : Bool → HeadingFault → Checked
check true fault = Ok tt
check false fault = Err fault

-- ---- The words after a heading

abbrev pub is_whole : Result ℤ NoFigure → Bool
is_whole (Ok number) = true
is_whole (Err fault) = false

module _ (separator : ℕ) (line : List ℕ) where
  unfoldable pub is_number : ℕ → Bool
  is_number number = is_whole (figure_of (word separator number line))

  unfoldable pub is_no_word : ℕ → Bool
  is_no_word number = is_empty (word separator number line)

  unfoldable pub says_how : Bool
  says_how = (says_cumulated (word separator 1 line) || is_word (word separator 1 line) (bytes "incremental")) && is_no_word 2

  -- after amounts, the cut, a single cell, and weights or openings
  unfoldable pub amount_words : Checked
  amount_words = check says_how CumulatedOrIncremental

  unfoldable pub cut_words : Checked
  cut_words = check (is_number 1 && is_no_word 2) NumberAfterCut

  unfoldable pub cell_words : Checked
  cell_words = check (is_number 1 && is_number 2 && is_no_word 3) YearsAfterCell

  unfoldable pub no_words : Checked
  no_words = check (is_no_word 1) NothingAfterHeading

  abbrev pub words_check : LineKind → Checked
  words_check Blank = no_words
  words_check Separators = no_words
  words_check Payments = amount_words
  words_check Adjustments = amount_words
  words_check Weights = no_words
  words_check Openings = no_words
  words_check Cut = cut_words
  words_check Cell = cell_words
  words_check Row = no_words
  words_check Unknown = no_words

-- ---- A line, and all lines

-- A line of this number and kind, among all lines and under the last heading before it. A heading stands at most once.
module _ (separator : ℕ) (all : List (List ℕ)) (number : ℕ) (under : LineKind) (line : List ℕ) where
  abbrev pub heading_check : LineKind → Checked
  heading_check kind = cond (eqb (line_number separator kind all) number) (words_check separator line kind) (Err HeadingOnce)

  abbrev pub line_check : LineKind → Checked
  line_check Blank = Ok tt
  line_check Separators = check (not (has_rows under)) FiguresInRow
  line_check Payments = heading_check Payments
  line_check Adjustments = heading_check Adjustments
  line_check Weights = heading_check Weights
  line_check Openings = heading_check Openings
  line_check Cut = heading_check Cut
  line_check Cell = heading_check Cell
  line_check Row = check (has_rows under) HeadingBeforeRow
  line_check Unknown = Err KnownHeading

-- the last heading after a line of this kind
abbrev pub under_after : LineKind → LineKind → LineKind
under_after under kind = cond (is_heading kind) kind under

-- The line and what was expected there, or else the first fault of later lines.
abbrev pub FirstFault : Type 0
FirstFault = Result (Unit {0}) WrongLine

abbrev pub or_later : Checked → ℕ → FirstFault → FirstFault
or_later (Ok nothing) number later = later
or_later (Err fault) number later = Err record { line = number; expected = fault }

-- of the lines after so many, under the last heading before them
unfoldable pub fault_after : ℕ → List (List ℕ) → ℕ → LineKind → List (List ℕ) → FirstFault
fault_after separator all number under [] = Ok tt
fault_after separator all number under (line ∷ lines) =
    or_later (line_check separator all (suc number) under line (kind_of separator line)) (suc number)
    (fault_after separator all (suc number) (under_after under (kind_of separator line)) lines)

abbrev pub heading_fault : ℕ → List (List ℕ) → FirstFault
heading_fault separator lines = fault_after separator lines 0 Blank lines
