-- Every line of the table has room: with the column that is as wide as its widest entry, no entry is cut off.
use mathlib.Core.Path.{◌≡◌}
use mathlib.Core.List.{List}
use Prim.Native.Nat.{ℕ, ◌+◌, ◌-◌, ◌*◌, ◌/◌, ◌≤◌, max}
use native.Mathlib.Nat.{one-mul, mul-le-mul_right, div-mul-le_self}
use native.Mathlib.Decide.{dec_le}
use native.Mathlib.Omega.{arith}
use lib.ListN.{length, length-append}
use Rattle.figures.specs.Bytes.{bytes}
use Rattle.completed.specs.declared.shown.CompletedLists.{CompletedLists}
use Rattle.completed.specs.declared.shown.Shown.{Shown}
use Rattle.completed.specs.declared.shown.Shown.TheVariants.{Missing, Observed, Projected}
use Rattle.printed.specs.Entries.{set_right, count_text, entries_after}
use Rattle.printed.proofs.Room.{number_length, amount_length, set_right_length, short_count_length, entries_length}
use Rattle.printed.proofs.Widths.{width_within_widest, widest_within}
use Rattle.completed_table.specs.CompletedRows.{shown_entry, last_in_part, years_heading, cell_shown, row_width, completed_column, completed_row}
use Rattle.completed_table.specs.declared.completed_rows.Table.{Table}

shown_length : (shown : Shown) → length (shown_entry shown) ≤ 36
shown_length Missing = omega arith
shown_length (Observed units) = omega (arith, number_length units)
shown_length (Projected millionths) = omega (arith, amount_length millionths)

-- the years of a part, with the two spaces before each of them, stay within 107 bytes
one_at_least : (years size : ℕ) → years * size ≤ 107 → size ≤ 107 → max 1 years * size ≤ 107
one_at_least years size several one = go (dec_le 1 years)
  where
    go : Dec (1 ≤ years) → max 1 years * size ≤ 107
    go (yes h) =
        let is : max 1 years ≡ years = omega arith in
        rw is several
    go (no h) =
        let is : max 1 years ≡ 1 = omega arith in
        rw (is, one-mul) one

part_length : (n before column : ℕ) → column ≤ 36 → (last_in_part n before column - before) * (column + 2) ≤ 107
unfolding last_in_part
part_length n before column narrow =
    let years : last_in_part n before column - before ≤ max 1 (107 / (column + 2)) = omega arith in
    omega (
      arith,
      mul-le-mul_right (column + 2) years,
      one_at_least (107 / (column + 2)) (column + 2) (div-mul-le_self 107 (column + 2)) (omega arith),
    )

last_within : (n before column : ℕ) → last_in_part n before column ≤ n
unfolding last_in_part
last_within n before column = omega arith

module _ (n : ℕ) (lists : CompletedLists) (table : Table) where
  abbrev text_in : ℕ → ℕ → List ℕ
  text_in i k = shown_entry (cell_shown n lists table i k)

  abbrev column : ℕ
  column = completed_column n lists table

  row_width_most : (i : ℕ) → row_width n lists table i ≤ 36
  unfolding row_width
  row_width_most i =
      widest_within (λ k. length (text_in i k)) 36 (λ k. shown_length (cell_shown n lists table i k)) 0 1 n (omega arith)

  pub completed_column_most : column ≤ 36
  unfolding completed_column
  completed_column_most = widest_within (row_width n lists table) 36 row_width_most 0 1 n (omega arith)

  text_within_column : (i k : ℕ) → 1 ≤ i → i ≤ n → 1 ≤ k → k ≤ n → length (text_in i k) ≤ column
  unfolding row_width completed_column
  text_within_column i k i_first i_last k_first k_last =
      omega (
        arith,
        width_within_widest (λ k. length (text_in i k)) 0 1 n k k_first (omega arith),
        width_within_widest (row_width n lists table) 0 1 n i i_first (omega arith),
      )

  pub completed_row_fits : n ≤ 32 → (i before : ℕ) → 1 ≤ i → i ≤ n
      → length (completed_row n lists table i before (last_in_part n before column) column) ≤ 120
  unfolding completed_row
  completed_row_fits few i before first last =
      let years = last_in_part n before column - before in
      omega (
        arith,
        length-append (set_right 13 (count_text i)) (entries_after (text_in i) column before years),
        set_right_length 13 (count_text i),
        short_count_length i (omega arith),
        entries_length (text_in i) column column before years (omega arith)
            (λ k from to. text_within_column i k first last (omega arith) (omega (arith, last_within n before column))),
        part_length n before column completed_column_most,
      )

module _ (n before column : ℕ) (few : n ≤ 32) (narrow : column ≤ 36) where
  abbrev years : ℕ
  years = last_in_part n before column - before

  years_within : (most : ℕ) → column ≤ most → 3 ≤ most → length (entries_after count_text column before years) ≤ years * (most + 2)
  years_within most wide_enough three =
      entries_length count_text column most before years wide_enough
      (λ k from to. omega (arith, short_count_length k (omega (arith, last_within n before column))))

  pub years_heading_fits : length (years_heading before (last_in_part n before column) column) ≤ 511
  unfolding years_heading
  years_heading_fits =
      omega (arith, length-append (bytes "accident year") (entries_after count_text column before years), go (dec_le 3 column))
    where
      go : Dec (3 ≤ column) → length (entries_after count_text column before years) ≤ 160
      go (yes h) = omega (arith, years_within column (omega arith) h, part_length n before column narrow)
      go (no h) = omega (arith, years_within 3 (omega arith) (omega arith), last_within n before column)
