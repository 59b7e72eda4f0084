-- The table of reserves, line by line. docs/FORMAT.md has this table.
use Rattle.std.specs.Prelude.{List, ◌++◌, ℕ, ◌-◌, max, ℤ, pos, length, get_or, Option}
use Rattle.figures.specs.Bytes.{bytes}
use Rattle.written_figures.specs.Writing.{whole_text, amount_text}
use Rattle.method.specs.AnswerPlaces.{year_figure}
use Rattle.printed.specs.Entries.{set_right, entry, count_text, widest_from}
use Rattle.reserve_table.specs.Totals.{total_from, total_text}

abbrev pub reserves_title : List ℕ
reserves_title = bytes "Reserves in units"

unfoldable pub reserves_heading : ℕ → List ℕ
reserves_heading column =
    bytes "accident year"
    ++ (entry column (bytes "last outstanding")
    ++ (entry column (bytes "paid reserve")
    ++ (entry column (bytes "incurred reserve")
    ++ entry column (bytes "closing outstanding"))))

-- The row of accident year i: its last outstanding in whole units, and its three figures of the reserve list in millionths.
unfoldable pub reserves_row : List ℤ → List ℤ → ℕ → ℕ → List ℕ
reserves_row outstandings reserves i column =
    set_right 13 (count_text i)
    ++ (entry column (whole_text (get_or outstandings (i - 1) (pos 0)))
    ++ (entry column (amount_text (year_figure reserves 0 i))
    ++ (entry column (amount_text (year_figure reserves 1 i))
    ++ entry column (amount_text (year_figure reserves 2 i)))))

-- ---- Totals

-- The totals of the last outstandings, and of one of the three figures of the reserve list.
abbrev pub outstandings_total : List ℤ → ℕ → Option ℤ
outstandings_total outstandings n = total_from (λ place. get_or outstandings place (pos 0)) (pos 0) 0 n

abbrev pub reserves_total : List ℤ → ℕ → ℕ → Option ℤ
reserves_total reserves figure n = total_from (λ i. year_figure reserves figure i) (pos 0) 1 n

unfoldable pub totals_row : ℕ → List ℤ → List ℤ → ℕ → List ℕ
totals_row n outstandings reserves column =
    bytes "        total"
    ++ (entry column (total_text whole_text (outstandings_total outstandings n))
    ++ (entry column (total_text amount_text (reserves_total reserves 0 n))
    ++ (entry column (total_text amount_text (reserves_total reserves 1 n))
    ++ entry column (total_text amount_text (reserves_total reserves 2 n)))))

-- ---- Widths

-- The width of the widest entry of a column: a figure or the total.
unfoldable pub outstandings_width : List ℤ → ℕ → ℕ
outstandings_width outstandings n =
    widest_from (λ place. length (whole_text (get_or outstandings place (pos 0))))
    (length (total_text whole_text (outstandings_total outstandings n))) 0 n

unfoldable pub reserves_width : List ℤ → ℕ → ℕ → ℕ
reserves_width reserves figure n =
    widest_from (λ i. length (amount_text (year_figure reserves figure i)))
    (length (total_text amount_text (reserves_total reserves figure n))) 1 n

-- The width of the widest entry of all columns, the widest heading among them.
unfoldable pub reserves_column : ℕ → List ℤ → List ℤ → ℕ
reserves_column n outstandings reserves =
    max (max (outstandings_width outstandings n) (reserves_width reserves 0 n))
    (max (max (reserves_width reserves 1 n) (reserves_width reserves 2 n)) (length (bytes "closing outstanding")))
