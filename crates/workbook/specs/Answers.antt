-- Ticket 1 of document 02: the whole answer of the call with a workbook's cells.
use Rattle.std.specs.Prelude.{List, ℕ, ℤ, pos, Float, replicate}
use Rattle.floats.specs.WholeNumbers.{plus_zero}
use Rattle.method.specs.RunOff.{Method, future, reserves, method}
use Rattle.method.specs.Verdicts.{Verdict, accepted, refused}
use Rattle.workbook.specs.Workbook.{Workbook, converted}
use Rattle.workbook.specs.Pairs.{pairs}
use Rattle.workbook.specs.Questions.{workbook_lengths_right, workbook_questions}

pub record WorkbookAnswer : Type 0 where
  pub verdict : Verdict
  pub future : List ℤ
  pub pairs : List Float

-- For answer lists of the given lengths. "No zero is minus zero, and a refusal leaves only zeros", in both lists at their actual lengths.
unfoldable pub filled_in_pairs : Method → ℕ → ℕ → Verdict → WorkbookAnswer
filled_in_pairs m future_room pairs_room accepted = record { verdict = accepted; future = future m; pairs = pairs (reserves m) }
filled_in_pairs m future_room pairs_room (refused question p) = record {
  verdict = refused question p;
  future = replicate future_room (pos 0);
  pairs = replicate pairs_room plus_zero;
}

unfoldable pub workbook_answer : Workbook → ℕ → ℕ → WorkbookAnswer
workbook_answer b future_room pairs_room =
    filled_in_pairs (method (converted b)) future_room pairs_room (workbook_questions b (workbook_lengths_right b future_room pairs_room))
