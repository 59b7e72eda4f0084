-- The entries of a table's line.
use Rattle.std.specs.Prelude.{List, [], ◌++◌, ℕ, zero, suc, ◌-◌, max, length, replicate}
use Rattle.written_figures.specs.Writing.{space, whole_text}
use Rattle.printed.specs.Counts.{as_number}

-- A text set to the right in a column.
abbrev pub set_right : ℕ → List ℕ → List ℕ
set_right column text = replicate (column - length text) space ++ text

-- An entry: two spaces, and a text set to the right in its column.
abbrev pub entry : ℕ → List ℕ → List ℕ
entry column text = replicate 2 space ++ set_right column text

-- A count that names a row or a column.
abbrev pub count_text : ℕ → List ℕ
count_text count = whole_text (as_number count)

-- The largest of a width and so many more, from a place on.
unfoldable pub widest_from : (ℕ → ℕ) → ℕ → ℕ → ℕ → ℕ
widest_from width column place zero = column
widest_from width column place (suc left) = widest_from width (max column (width place)) (suc place) left

-- The entries of so many columns after column k, whose texts are given.
unfoldable pub entries_after : (ℕ → List ℕ) → ℕ → ℕ → ℕ → List ℕ
entries_after text column k zero = []
entries_after text column k (suc left) = entry column (text (suc k)) ++ entries_after text column (suc k) left
