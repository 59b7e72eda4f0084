-- Ticket 1 of document 02: "New numbers: 11 for a kind byte above 1, 12 for a number that is not finite and whole,
-- 13 for a blank at a cell with i + k above Y or a number at a missing one, asked in this order after question 4, payments first within each, the cell as place."
use Rattle.std.specs.Prelude.{Bool, ◌&&◌, ℕ, eqb, leb, nat_abs, length}
use Rattle.std.specs.Bool.{beq}
use Rattle.method.specs.Verdicts.{Verdict, ◌then◌, each_cell}
use Rattle.method.specs.Triangle.{amounts_length, weights_length, openings_length, future_length, missing}
use Rattle.method.specs.Questions.{question_1, question_2, question_3, question_4}
use Rattle.method.specs.QuestionParts.{questions_5_to_9}
use Rattle.workbook.specs.Cells.{is_blank, whole_or_blank}
use Rattle.workbook.specs.Workbook.{CellList, Workbook, kind_at, cell_at, converted, pairs_length}

-- ---- Of one list of cells, for n years and the cut Y

unfoldable pub kinds_known : ℕ → CellList → Verdict
kinds_known n c = each_cell n 11 (λ i k. leb (kind_at n c i k) 1)

unfoldable pub numbers_whole : ℕ → CellList → Verdict
numbers_whole n c = each_cell n 12 (λ i k. whole_or_blank (cell_at n c i k))

-- blank exactly where missing
unfoldable pub blanks_missing : ℕ → ℕ → CellList → Verdict
blanks_missing n Y c = each_cell n 13 (λ i k. beq (is_blank (cell_at n c i k)) (missing Y i k))

-- ---- Of a workbook

module _ (b : Workbook) where
  abbrev pub n : ℕ
  n = nat_abs b.years

  abbrev pub Y : ℕ
  Y = nat_abs b.cut

  unfoldable pub question_11 : Verdict
  question_11 = kinds_known n b.payments then kinds_known n b.adjustments

  unfoldable pub question_12 : Verdict
  question_12 = numbers_whole n b.payments then numbers_whole n b.adjustments

  unfoldable pub question_13 : Verdict
  question_13 = blanks_missing n Y b.payments then blanks_missing n Y b.adjustments

  -- "Question 3 covers the kind lists": the lists that are read, then the future list and the list of pairs, of the given lengths
  unfoldable pub workbook_lengths_right : ℕ → ℕ → Bool
  workbook_lengths_right future_room pairs_room =
      eqb (length b.payments.numbers) (amounts_length n)
      && eqb (length b.adjustments.numbers) (amounts_length n)
      && eqb (length b.weights) (weights_length n)
      && eqb (length b.openings) (openings_length Y)
      && eqb (length b.payments.kinds) (amounts_length n)
      && eqb (length b.adjustments.kinds) (amounts_length n)
      && eqb future_room (future_length n)
      && eqb pairs_room (pairs_length n)

  -- in the order in which they are asked
  unfoldable pub workbook_questions : Bool → Verdict
  workbook_questions right =
      question_1 b.years then question_2 b.years b.cut then question_3 right then question_4 (converted b)
      then question_11 then question_12 then question_13
      then questions_5_to_9 (converted b)
