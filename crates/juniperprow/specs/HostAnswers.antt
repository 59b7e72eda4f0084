-- What a host is answered: document 01's number and place, and the figures.
use Rattle.std.specs.Prelude.{◌≡◌, ◌↔◌, List, ℕ, ℤ, pos, Float}
use Rattle.method.specs.Triangle.{Triangle}
use Rattle.method.specs.Verdicts.{Verdict, accepted, number, place}
use Rattle.method.specs.RunOff.{method}
use Rattle.method.specs.Answers.{answer, single_cell, row_verdict}
use Rattle.method.specs.Answers as meaning
use Rattle.method.specs.Demand1.{Demand1, Demand1OfCell, Demand1OfRow}
use Rattle.method.specs.Demand2.{Demand2}
use Rattle.method.specs.Demand3.{Demand3, CellOfFuture}
use Rattle.workbook.specs.Workbook.{Workbook}
use Rattle.workbook.specs.Answers.{workbook_answer}
use Rattle.workbook.specs.Demand1.{Demand1OfWorkbook}
use Rattle.workbook.specs.Agreement.{WorkbookAgrees}
use Rattle.calls.specs.Answers.{answer_of}
use Rattle.workbook_reserve.specs.Workbooks.{workbook_answer_of}
use Rattle.juniperprow.specs.declared.VerdictAnswer.{VerdictAnswer}
use Rattle.juniperprow.specs.declared.CellAnswer.{CellAnswer}

-- ---- What a host lends, one list after another

abbrev pub triangle_lent : ℤ → ℤ → List ℤ → List ℤ → List ℤ → List ℤ → Triangle
triangle_lent years cut payments adjustments weights openings = record {
  years = years;
  cut = cut;
  payments = payments;
  adjustments = adjustments;
  weights = weights;
  openings = openings;
}

abbrev pub workbook_lent : ℤ → ℤ → List ℕ → List Float → List ℕ → List Float → List ℤ → List ℤ → Workbook
workbook_lent years cut payment_kinds payments adjustment_kinds adjustments weights openings = record {
  years = years;
  cut = cut;
  payments = record { kinds = payment_kinds; numbers = payments };
  adjustments = record { kinds = adjustment_kinds; numbers = adjustments };
  weights = weights;
  openings = openings;
}

-- ---- What it is answered

unfoldable pub verdict_answer : Verdict → VerdictAnswer
verdict_answer v = record {
  number = pos (number v);
  accident_year = (place v).accident_year;
  development_year = (place v).development_year;
}

unfoldable pub cell_answer : meaning.CellAnswer → CellAnswer
cell_answer c = record {
  verdict = verdict_answer c.verdict;
  payment = c.payment;
  adjustment = c.adjustment;
  outstanding = c.outstanding;
}

-- ---- The calls: what they tell is equal to the definition's answer for every input, and meets its demands

-- The number 0 is told of an accepted call and of no other.
abbrev pub ToldByNumber : VerdictAnswer → Verdict → Type 0
ToldByNumber r v = (r.number ≡ pos 0) ↔ (v ≡ accepted)

-- The call that fills both lists, for a triangle and lists of the given lengths: its verdict, and the lists as it left them.
pub record ReserveAnswered (t : Triangle) (future_room reserves_room : ℕ) (r : VerdictAnswer) (future reserves : List ℤ) : Type 0 where
  pub verdict : Verdict
  pub told : r ≡ verdict_answer verdict
  pub told_by_number : ToldByNumber r verdict
  pub whole : answer_of verdict future reserves ≡ answer t future_room reserves_room
  pub demand_1 : Demand1 t future_room reserves_room verdict future reserves
  pub demand_2 : verdict ≡ accepted → Demand2 t future reserves
  pub demand_3 : verdict ≡ accepted → Demand3 (method t) future reserves

-- The call with a workbook's cells: its verdict, and the lists as it left them.
pub record WorkbookAnswered (b : Workbook) (future_room pairs_room : ℕ) (r : VerdictAnswer) (future : List ℤ) (pairs : List Float) : Type 0 where
  pub verdict : Verdict
  pub told : r ≡ verdict_answer verdict
  pub told_by_number : ToldByNumber r verdict
  pub whole : workbook_answer_of verdict future pairs ≡ workbook_answer b future_room pairs_room
  pub demand_1 : Demand1OfWorkbook b future_room pairs_room verdict future pairs
  -- with demands 2 and 3 of the lists that were written
  pub agrees : verdict ≡ accepted → WorkbookAgrees b future pairs

-- A single cell.
pub record CellAnswered (t : Triangle) (i k : ℤ) (r : CellAnswer) : Type 0 where
  pub cell : meaning.CellAnswer
  pub told : r ≡ cell_answer cell
  pub told_by_number : ToldByNumber r.verdict cell.verdict
  pub whole : cell ≡ single_cell t i k
  pub demand_1 : Demand1OfCell t i k cell
  pub of_future : cell.verdict ≡ accepted → CellOfFuture t i k cell

-- The verdict on a row.
pub record RowAnswered (years : ℤ) (payment_list adjustment_list : List ℤ) (i : ℤ) (r : VerdictAnswer) : Type 0 where
  pub verdict : Verdict
  pub told : r ≡ verdict_answer verdict
  pub told_by_number : ToldByNumber r verdict
  pub whole : verdict ≡ row_verdict years payment_list adjustment_list i
  pub demand_1 : Demand1OfRow years payment_list adjustment_list i verdict
