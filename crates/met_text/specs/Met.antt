-- What was met where a fault is.
use Rattle.std.specs.Prelude.{◌&&◌, cond, Option, Some, None, List, ℕ, ◌+◌, ◌-◌, eqb, length, get_or, take, drop}
use Rattle.text.specs.Bytes.{double_quote}
use Rattle.text.specs.Search.{is_byte, is_no_space, before, has_byte, from}
use Rattle.text.specs.Lines.{lines, line_of}
use Rattle.line_parts.specs.Cells.{trimmed, first_cell, from_field, separator_of}

-- The length of the text in double quotes that stands at the start of another, with its quotes; 0 where none does.
unfoldable pub quoted_length : List ℕ → ℕ
quoted_length text =
    let rest : List ℕ = drop 1 text in
    cond (eqb (get_or text 0 0) double_quote && has_byte double_quote rest) (length (before (is_byte double_quote) rest) + 2) 0

-- That text, where there is one.
abbrev pub quoted : List ℕ → Option (List ℕ)
quoted text = cond (eqb (quoted_length text) 0) None (Some (take (quoted_length text) text))

-- The first cell of what is left of a line. One that begins with a double quote goes on to the next double quote, over separators:
-- so a spreadsheet writes a figure with a thousands comma.
unfoldable pub met_first : ℕ → List ℕ → List ℕ
met_first separator rest =
    let content : List ℕ = from is_no_space rest in
    cond (eqb (quoted_length content) 0) (first_cell separator rest) (take (quoted_length content) content)

-- At this line and cell of a text, which count from 1. The cell is 0 where the whole line is meant.
unfoldable pub met_at : ℕ → ℕ → List ℕ → List ℕ
met_at line cell text =
    let whole : List ℕ = line_of line (lines text) in
    cond (eqb cell 0) (trimmed whole) (met_first (separator_of text) (from_field (separator_of text) (cell - 1) whole))
