-- The completed triangle, line by line. docs/FORMAT.md has these tables.
use Rattle.std.specs.Prelude.{◌≡◌, List, ◌∷◌, ◌++◌, ℕ, ◌+◌, ◌-◌, ◌/◌, ◌≤◌, min, max, length}
use Prim.Native.Char.{code}
use Rattle.figures.specs.Bytes.{bytes}
use Rattle.written_figures.specs.Writing.{whole_text, amount_text}
use Rattle.method.specs.Outstandings.{R}
use Rattle.method.specs.AnswerPlaces.{cell_figure}
use Rattle.completed.specs.Completed.{amount_in, shown_in, outstandings_of, RowWithin}
use Rattle.completed.specs.declared.shown.CompletedLists.{CompletedLists}
use Rattle.completed.specs.declared.shown.Shown.{Shown}
use Rattle.completed.specs.declared.shown.Shown.TheVariants.{Missing, Observed, Projected}
use Rattle.printed.specs.declared.line.Line.{Line}
use Rattle.printed.specs.Line.{LineIs}
use Rattle.printed.specs.Entries.{set_right, count_text, widest_from, entries_after}
use Rattle.completed_table.specs.declared.completed_rows.Table.{Table}
use Rattle.completed_table.specs.declared.completed_rows.Table.TheVariants.{Payments, Adjustments, Outstandings}

abbrev pub table_title : Table → List ℕ
table_title Payments = bytes "Payments of the year, in units (* projected)"
table_title Adjustments = bytes "Adjustments of the year, in units (* projected)"
table_title Outstandings = bytes "Outstandings at the end of the year, in units (* projected)"

-- A missing cell is a question mark, what was observed is whole, and what is projected has a star before it.
abbrev pub shown_entry : Shown → List ℕ
shown_entry Missing = bytes "?"
shown_entry (Observed units) = whole_text units
shown_entry (Projected millionths) = code "*" ∷ amount_text millionths

-- The accident years take 13 bytes of a line, and each column two spaces before it: in a part stand as many development years after
-- `before` as stay within 120 bytes, and one at least.
unfoldable pub last_in_part : ℕ → ℕ → ℕ → ℕ
last_in_part n before column = min n (before + max 1 (107 / (column + 2)))

-- A part has the development years after `before`, up to the last.
unfoldable pub years_heading : ℕ → ℕ → ℕ → List ℕ
years_heading before last column = bytes "accident year" ++ entries_after count_text column before (last - before)

module _ (n : ℕ) (lists : CompletedLists) where
  -- What stands in cell (i, k) of a table.
  abbrev pub cell_shown : Table → ℕ → ℕ → Shown
  cell_shown Payments i k = amount_in n lists.cut lists.observed.payments.now lists.future.now 0 i k
  cell_shown Adjustments i k = amount_in n lists.cut lists.observed.adjustments.now lists.future.now 1 i k
  cell_shown Outstandings i k = shown_in n lists.cut i k (R (outstandings_of n lists.observed) i k) (cell_figure n lists.future.now 2 i (k - 1))

  -- The row of accident year i in a part.
  unfoldable pub completed_row : Table → ℕ → ℕ → ℕ → ℕ → List ℕ
  completed_row table i before last column =
      set_right 13 (count_text i) ++ entries_after (λ k. shown_entry (cell_shown table i k)) column before (last - before)

  -- The width of the widest entry of row i, and of the whole table, where a projected figure is wider than every heading.
  unfoldable pub row_width : Table → ℕ → ℕ
  row_width table i = widest_from (λ k. length (shown_entry (cell_shown table i k))) 0 1 n

  unfoldable pub completed_column : Table → ℕ
  completed_column table = widest_from (row_width table) 0 1 n

  -- The seen cells of row i are within the limits of questions 5 and 6, as in every accepted triangle
  -- (`rows_within` in crates/completed/proofs/AcceptedRows.antt).
  abbrev pub RowSeenWithin : ℕ → Type 0
  RowSeenWithin i = (k : ℕ) → i + k ≤ n + 1 → RowWithin (outstandings_of n lists.observed) i k

  -- Where they are, the cell r is what stands there, the line r is that row, and r is the row's width.
  pub record CellShown (table : Table) (i k : ℕ) (r : Shown) : Type 0 where
    pub is : RowSeenWithin i → r ≡ cell_shown table i k

  pub record RowShown (table : Table) (i before last column : ℕ) (r : Line) : Type 0 where
    pub is : RowSeenWithin i → LineIs (completed_row table i before last column) r

  pub record RowWidthIs (table : Table) (i r : ℕ) : Type 0 where
    pub is : RowSeenWithin i → r ≡ row_width table i

  -- Where those of all rows are, r is the table's width.
  pub record ColumnIs (table : Table) (r : ℕ) : Type 0 where
    pub is : ((i : ℕ) → RowSeenWithin i) → r ≡ completed_column table
