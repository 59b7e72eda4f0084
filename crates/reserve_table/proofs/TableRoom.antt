-- Every line of the table has room: with the column that is as wide as its widest entry, no entry is cut off.
use mathlib.Core.List.{List, ◌++◌}
use Prim.Native.Nat.{ℕ, ◌-◌, ◌≤◌}
use native.Mathlib.Omega.{arith}
use lib.IntN.{ℤ, pos}
use lib.ListN.{length, get_or, length-append}
use Rattle.figures.specs.Bytes.{bytes}
use Rattle.written_figures.specs.Writing.{whole_text, amount_text}
use Rattle.std.specs.Prelude.{Option, Some, None}
use Rattle.method.specs.AnswerPlaces.{year_figure}
use Rattle.printed.specs.Entries.{set_right, entry, count_text}
use Rattle.printed.proofs.Room.{number_length, amount_length, set_right_length, entry_length, count_length}
use Rattle.printed.proofs.Widths.{widest_within}
use Rattle.reserve_table.specs.Totals.{total_text}
use Rattle.reserve_table.specs.ReserveRows.{reserves_heading, outstandings_total, reserves_total, outstandings_width, reserves_width, reserves_column, reserves_row, totals_row}

total_length : (total : Option ℤ) → length (total_text whole_text total) ≤ 35
total_length (Some total) = omega (arith, number_length total)
total_length None = omega arith

total_amount_length : (total : Option ℤ) → length (total_text amount_text total) ≤ 35
total_amount_length (Some total) = amount_length total
total_amount_length None = omega arith

module _ (outstandings reserves : List ℤ) (n : ℕ) where
  outstandings_width_most : outstandings_width outstandings n ≤ 35
  unfolding outstandings_width
  outstandings_width_most =
      widest_within (λ place. length (whole_text (get_or outstandings place (pos 0)))) 35 (λ place. omega (arith, number_length (get_or outstandings place (pos 0))))
      (length (total_text whole_text (outstandings_total outstandings n))) 0 n (total_length (outstandings_total outstandings n))

  reserves_width_most : (figure : ℕ) → reserves_width reserves figure n ≤ 35
  unfolding reserves_width
  reserves_width_most figure =
      widest_within (λ i. length (amount_text (year_figure reserves figure i))) 35 (λ i. amount_length (year_figure reserves figure i))
      (length (total_text amount_text (reserves_total reserves figure n))) 1 n (total_amount_length (reserves_total reserves figure n))

  pub reserves_column_most : reserves_column n outstandings reserves ≤ 35
  unfolding reserves_column
  reserves_column_most = omega (arith, outstandings_width_most, reserves_width_most 0, reserves_width_most 1, reserves_width_most 2)

four_entries : (column : ℕ) (first a b c d : List ℕ) → column ≤ 35 → length first ≤ 28
    → length a ≤ 35 → length b ≤ 35 → length c ≤ 35 → length d ≤ 35
    → length (set_right 13 first ++ (entry column a ++ (entry column b ++ (entry column c ++ entry column d)))) ≤ 511
four_entries column first a b c d narrow first_short a_short b_short c_short d_short =
    omega (
      arith,
      length-append (set_right 13 first) (entry column a ++ (entry column b ++ (entry column c ++ entry column d))),
      set_right_length 13 first,
      length-append (entry column a) (entry column b ++ (entry column c ++ entry column d)),
      entry_length column a,
      length-append (entry column b) (entry column c ++ entry column d),
      entry_length column b,
      length-append (entry column c) (entry column d),
      entry_length column c,
      entry_length column d,
    )

module _ (outstandings reserves : List ℤ) (n : ℕ) where
  pub reserves_row_fits : (i : ℕ) → length (reserves_row outstandings reserves i (reserves_column n outstandings reserves)) ≤ 511
  unfolding reserves_row
  reserves_row_fits i =
      four_entries (reserves_column n outstandings reserves) (count_text i)
      (whole_text (get_or outstandings (i - 1) (pos 0))) (amount_text (year_figure reserves 0 i)) (amount_text (year_figure reserves 1 i)) (amount_text (year_figure reserves 2 i))
      (reserves_column_most outstandings reserves n) (count_length i) (omega (arith, number_length (get_or outstandings (i - 1) (pos 0))))
      (amount_length (year_figure reserves 0 i)) (amount_length (year_figure reserves 1 i)) (amount_length (year_figure reserves 2 i))

  pub totals_row_fits : length (totals_row n outstandings reserves (reserves_column n outstandings reserves)) ≤ 511
  unfolding totals_row
  totals_row_fits =
      four_entries (reserves_column n outstandings reserves) (bytes "        total")
      (total_text whole_text (outstandings_total outstandings n))
      (total_text amount_text (reserves_total reserves 0 n)) (total_text amount_text (reserves_total reserves 1 n)) (total_text amount_text (reserves_total reserves 2 n))
      (reserves_column_most outstandings reserves n) (omega arith) (total_length (outstandings_total outstandings n))
      (total_amount_length (reserves_total reserves 0 n)) (total_amount_length (reserves_total reserves 1 n)) (total_amount_length (reserves_total reserves 2 n))

pub reserves_heading_fits : (column : ℕ) → column ≤ 35 → length (reserves_heading column) ≤ 511
unfolding reserves_heading
reserves_heading_fits column narrow =
    four_entries column (bytes "accident year") (bytes "last outstanding") (bytes "paid reserve") (bytes "incurred reserve") (bytes "closing outstanding")
    narrow (omega arith) (omega arith) (omega arith) (omega arith) (omega arith)
