-- Questions 11, 12 and 13 of both lists, payments and adjustments.
use Rattle.std.specs.Prelude.{◌≡◌, Bool, ◌&&◌, ℕ, ◌≤◌, length}
use Rattle.method.specs.Limits.{most_accident_years}
use Rattle.method.specs.Triangle.{amounts_length}
use Rattle.method.specs.Verdicts.{Verdict, ◌then◌}
use Rattle.workbook.specs.Workbook.{CellList}
use Rattle.workbook.specs.Questions.{kinds_known, numbers_whole, blanks_missing}
use Rattle.workbook_cells.specs.Conversion.{all_convertible}

-- what questions 1 to 3 leave of a list
pub record CellsRight (n : ℕ) (c : CellList) : Type 0 where
  pub most : n ≤ most_accident_years
  pub kinds : length c.kinds ≡ amounts_length n
  pub numbers : length c.numbers ≡ amounts_length n

-- ---- Of both lists, payments and adjustments

-- whether every cell can be converted
abbrev pub list_convertible : CellList → Bool
list_convertible c = all_convertible (length c.numbers) c.kinds c.numbers

abbrev pub both_convertible : CellList → CellList → Bool
both_convertible payments adjustments = list_convertible payments && list_convertible adjustments

abbrev pub questions_11_and_12 : ℕ → CellList → CellList → Verdict
questions_11_and_12 n payments adjustments =
    (kinds_known n payments then kinds_known n adjustments) then numbers_whole n payments then numbers_whole n adjustments

abbrev pub questions_11_to_13 : ℕ → ℕ → CellList → CellList → Verdict
questions_11_to_13 n cut payments adjustments =
    questions_11_and_12 n payments adjustments then blanks_missing n cut payments then blanks_missing n cut adjustments
