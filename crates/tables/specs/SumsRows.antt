-- The table of the ratios' sums, line by line. docs/FORMAT.md has this table.
use Rattle.std.specs.Prelude.{List, ◌++◌, ℕ, ◌+◌, ◌-◌, max, length, get_or}
use Rattle.figures.specs.Bytes.{bytes}
use Rattle.written_figures.specs.Writing.{whole_text}
use Rattle.ratios.specs.Ratios.{no_sums}
use Rattle.ratios.specs.declared.Sums.{Sums}
use Rattle.printed.specs.Entries.{set_right, entry, count_text, widest_from}

abbrev pub sums_title : List ℕ
sums_title = bytes "Sums of the ratios: payment ratio P / D, adjustment ratio Q / D"

unfoldable pub sums_heading : ℕ → List ℕ
sums_heading column = bytes "development year" ++ (entry column (bytes "P") ++ (entry column (bytes "Q") ++ entry column (bytes "D")))

-- The width of the widest of a year's three sums, and of all years before the last; a heading has one byte.
abbrev pub sums_width : Sums → ℕ
sums_width sums =
    max (max (length (whole_text sums.payments)) (length (whole_text sums.adjustments))) (length (whole_text sums.exposure))

unfoldable pub sums_column : ℕ → List Sums → ℕ
sums_column n ratios = widest_from (λ place. sums_width (get_or ratios place no_sums)) 1 0 (n - 1)

-- From development year k to the next.
unfoldable pub from_year : ℕ → List ℕ
from_year k = count_text k ++ (bytes " to " ++ count_text (k + 1))

-- The row of development year k, whose sums project from that year to the next.
unfoldable pub sums_row : List Sums → ℕ → ℕ → List ℕ
sums_row ratios k column =
    let sums : Sums = get_or ratios (k - 1) no_sums in
    set_right 16 (from_year k)
    ++ (entry column (whole_text sums.payments) ++ (entry column (whole_text sums.adjustments) ++ entry column (whole_text sums.exposure)))
