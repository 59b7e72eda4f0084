-- The cells of a line, without the spaces around them, and the byte that separates them.
use Rattle.std.specs.Prelude.{Bool, true, false, ◌&&◌, cond, List, [], ◌∷◌, ℕ, zero, suc, eqb}
use Rattle.text.specs.Bytes.{space, comma}
use Rattle.text.specs.Search.{is_byte, is_separator, is_no_space, is_content, before, from, after}
use Rattle.text.specs.Lines.{lines}

-- ---- The separator

abbrev pub first_byte_or : ℕ → List ℕ → ℕ
first_byte_or other [] = other
first_byte_or other (byte ∷ text) = byte

-- The first separator in lines, which are without their comments, or a comma where there is none.
unfoldable pub separator_in : List (List ℕ) → ℕ
separator_in [] = comma
separator_in (line ∷ lines) = first_byte_or (separator_in lines) (from is_separator line)

abbrev pub separator_of : List ℕ → ℕ
separator_of text = separator_in (lines text)

-- ---- Cells

abbrev pub is_empty : List ℕ → Bool
is_empty [] = true
is_empty (byte ∷ text) = false

unfoldable pub without_last_spaces : List ℕ → List ℕ
without_last_spaces [] = []
without_last_spaces (byte ∷ text) =
    let others : List ℕ = without_last_spaces text in
    cond (eqb byte space && is_empty others) [] (byte ∷ others)

unfoldable pub trimmed : List ℕ → List ℕ
trimmed text = without_last_spaces (from is_no_space text)

-- A text from its first byte on that is neither a space nor the separator: nothing where all its cells are blank.
abbrev pub from_content : ℕ → List ℕ → List ℕ
from_content separator text = from (is_content separator) text

-- The first cell of what is left of a line, and what is left after it and its separator. A line that has ended goes on with empty cells.
abbrev pub first_cell : ℕ → List ℕ → List ℕ
first_cell separator rest = trimmed (before (is_byte separator) rest)

abbrev pub after_cell : ℕ → List ℕ → List ℕ
after_cell separator rest = after (is_byte separator) rest

-- A text from the field of this number on, counted from 0; empty where there are fewer. The field as it stands between separators.
unfoldable pub from_field : ℕ → ℕ → List ℕ → List ℕ
from_field separator zero text = text
from_field separator (suc number) text = from_field separator number (after_cell separator text)

abbrev pub field : ℕ → ℕ → List ℕ → List ℕ
field separator number text = before (is_byte separator) (from_field separator number text)
