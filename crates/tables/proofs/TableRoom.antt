-- Every line of a table has room: with the column that is as wide as its widest entry, no entry is cut off.
use mathlib.Core.Path.{refl}
use mathlib.Core.List.{List, ◌++◌}
use Prim.Native.Nat.{ℕ, ◌+◌, ◌-◌, ◌≤◌}
use native.Mathlib.Omega.{arith}
use lib.IntN.{ℤ}
use lib.ListN.{length, get_or, length-append}
use Rattle.figures.specs.Bytes.{bytes}
use Rattle.written_figures.specs.Writing.{whole_text, amount_text}
use Rattle.ratios.specs.Ratios.{no_sums}
use Rattle.ratios.specs.declared.Sums.{Sums}
use Rattle.printed.specs.Entries.{set_right, entry, count_text}
use Rattle.printed.specs.Filling.{places}
use Rattle.printed.proofs.Room.{filled_fits, number_length, amount_length, set_right_length, entry_length, count_length}
use Rattle.printed.proofs.Widths.{widest_within}
use Rattle.tables.specs.SumsRows.{sums_width, sums_column, sums_heading, from_year, sums_row}
use Rattle.tables.specs.Accepted.{accepted_line}
use Rattle.tables.specs.OneCell.{cell_title, cell_column, figure_name, cell_line}
use Rattle.completed.specs.declared.places.FutureFigure.{FutureFigure}
use Rattle.completed.specs.declared.places.FutureFigure.TheVariants.{Payment, Adjustment, Outstanding}

-- ---- The sums of the ratios

sums_width_most : (sums : Sums) → sums_width sums ≤ 28
sums_width_most sums = omega (arith, number_length sums.payments, number_length sums.adjustments, number_length sums.exposure)

pub sums_column_most : (n : ℕ) (ratios : List Sums) → sums_column n ratios ≤ 28
unfolding sums_column
sums_column_most n ratios =
    widest_within (λ place. sums_width (get_or ratios place no_sums)) 28 (λ place. sums_width_most (get_or ratios place no_sums)) 1 0 (n - 1) (omega arith)

three_entries : (column : ℕ) (first a b c : List ℕ) → column ≤ 28 → length first ≤ 60 → length a ≤ 28 → length b ≤ 28 → length c ≤ 28
    → length (set_right 16 first ++ (entry column a ++ (entry column b ++ entry column c))) ≤ 511
three_entries column first a b c narrow first_short a_short b_short c_short =
    omega (
      arith,
      length-append (set_right 16 first) (entry column a ++ (entry column b ++ entry column c)),
      set_right_length 16 first,
      length-append (entry column a) (entry column b ++ entry column c),
      entry_length column a,
      length-append (entry column b) (entry column c),
      entry_length column b,
      entry_length column c,
    )

pub sums_heading_fits : (column : ℕ) → column ≤ 28 → length (sums_heading column) ≤ 511
unfolding sums_heading
sums_heading_fits column narrow =
    three_entries column (bytes "development year") (bytes "P") (bytes "Q") (bytes "D") narrow (omega arith) (omega arith) (omega arith) (omega arith)

pub sums_row_fits : (ratios : List Sums) (k column : ℕ) → column ≤ 28 → length (sums_row ratios k column) ≤ 511
unfolding from_year sums_row
sums_row_fits ratios k column narrow =
    let sums = get_or ratios (k - 1) no_sums in
    three_entries column (from_year k) (whole_text sums.payments) (whole_text sums.adjustments) (whole_text sums.exposure)
    narrow
    (omega (
      arith,
      length-append (count_text k) (bytes " to " ++ count_text (k + 1)),
      length-append (bytes " to ") (count_text (k + 1)),
      count_length k,
      count_length (k + 1),
    ))
    (number_length sums.payments) (number_length sums.adjustments) (number_length sums.exposure)

-- ---- One cell alone

name_length : (figure : FutureFigure) → length (figure_name figure) ≤ 11
name_length Payment = omega arith
name_length Adjustment = omega arith
name_length Outstanding = omega arith

pub cell_column_most : (payment adjustment outstanding : ℤ) → cell_column payment adjustment outstanding ≤ 35
unfolding cell_column
cell_column_most payment adjustment outstanding = omega (arith, amount_length payment, amount_length adjustment, amount_length outstanding)

pub cell_line_fits : (figure : FutureFigure) (millionths : ℤ) (column : ℕ) → column ≤ 35 → length (cell_line figure millionths column) ≤ 511
unfolding cell_line
cell_line_fits figure millionths column narrow =
    omega (
      arith,
      length-append (figure_name figure) (entry column (amount_text millionths)),
      name_length figure,
      entry_length column (amount_text millionths),
      amount_length millionths,
    )

-- ---- Lines with numbers in their places

pub cell_title_fits : (i k : ℤ) → length (cell_title i k) ≤ 511
unfolding places
cell_title_fits i k = filled_fits 511 _ _ refl

pub accepted_line_fits : (years cut : ℤ) → length (accepted_line years cut) ≤ 511
unfolding places
accepted_line_fits years cut = filled_fits 511 _ _ refl
