-- No line of a text is left out: each is empty, a heading that stands nowhere else, or one row of one block.
-- Comments are no part of a line here, and a line with nothing else is empty.
use Rattle.std.specs.Prelude.{◌≡◌, true, false, List, [], ◌∷◌, ℕ, suc, ◌≤◌}
use Rattle.text.specs.Lines.{lines}
use Rattle.line_parts.specs.Cells.{separator_of}
use Rattle.line_kinds.specs.Kinds.{kind_of, has_rows}
use Rattle.headings.specs.Places.{line_number, row_line}
use Rattle.heading_faults.specs.Faults.{under_after}
use Rattle.line_kinds.specs.declared.kinds.LineKind.{LineKind}
use Rattle.line_kinds.specs.declared.kinds.LineKind.TheVariants.{Blank, Separators, Payments, Adjustments, Weights, Openings, Cut, Cell, Row, Unknown}
use Rattle.triangle_text.specs.declared.reading.Asked.{Asked}
use Rattle.triangle_text.specs.Reading.{Lists, triangle, without_mark, reading}

module _ (separator : ℕ) (all : List (List ℕ)) where
  -- The line of this number is a row of the block under a heading.
  pub record RowOf (heading : LineKind) (number : ℕ) : Type 0 where
    pub row : ℕ
    pub from_first : 1 ≤ row
    pub rows_follow : has_rows heading ≡ true
    pub stands_here : row_line separator heading row all ≡ number

  -- A line of this number and kind, under the last heading before it.
  abbrev pub LineRead : ℕ → LineKind → LineKind → Type 0
  LineRead number under Blank = Unit
  LineRead number under Separators = has_rows under ≡ false
  LineRead number under Payments = line_number separator Payments all ≡ number
  LineRead number under Adjustments = line_number separator Adjustments all ≡ number
  LineRead number under Weights = line_number separator Weights all ≡ number
  LineRead number under Openings = line_number separator Openings all ≡ number
  LineRead number under Cut = line_number separator Cut all ≡ number
  LineRead number under Cell = line_number separator Cell all ≡ number
  LineRead number under Row = RowOf under number
  LineRead number under Unknown = ⊥

  -- each of some lines, which come after so many and under the last heading before them
  unfoldable pub LinesRead : ℕ → LineKind → List (List ℕ) → Type 0
  LinesRead number under [] = Unit
  LinesRead number under (line ∷ lines) =
      LineRead (suc number) under (kind_of separator line) × LinesRead (suc number) (under_after under (kind_of separator line)) lines

  abbrev pub EveryLineRead : Type 0
  EveryLineRead = LinesRead 0 Blank all

-- Of every text that is read as a triangle.
abbrev pub EveryLineOfEveryText : Type 0
EveryLineOfEveryText =
    (bytes : List ℕ) (asked : Asked) (lists : Lists) → reading bytes ≡ triangle asked lists
    → EveryLineRead (separator_of (without_mark bytes)) (lines (without_mark bytes))
