-- The answers of a host's calls from those of the calls below, and what the number 0 says.
use mathlib.Core.Path.{◌≡◌, sym, ap, ◌∙◌}
use mathlib.Core.List.{List}
use Prim.Native.Nat.{ℕ}
use lib.IntN.{ℤ, pos, nat_abs}
use lib.Ieee.{Float}
use Rattle.method.specs.Verdicts.{Verdict, accepted, number}
use Rattle.method.specs.Triangle.{Triangle}
use Rattle.method.specs.RunOff.{method}
use Rattle.method.specs.Answers.{answer, single_cell, row_verdict}
use Rattle.method.specs.Answers as meaning
use Rattle.method.specs.Demand1.{Demand1, Demand1OfCell, Demand1OfRow}
use Rattle.method.specs.Demand2.{Demand2}
use Rattle.method.specs.Demand3.{Demand3, CellOfFuture}
use Rattle.method.proofs.Numbers.{number_0_of_call, number_0_of_cell, number_0_of_row}
use Rattle.workbook.specs.Workbook.{Workbook}
use Rattle.workbook.specs.Answers.{workbook_answer}
use Rattle.workbook.specs.Demand1.{Demand1OfWorkbook}
use Rattle.workbook.specs.Agreement.{WorkbookAgrees}
use Rattle.workbook.proofs.Demands.{number_0_of_workbook}
use Rattle.calls.specs.Answers.{answer_of}
use Rattle.workbook_reserve.specs.Workbooks.{workbook_answer_of}
use Rattle.juniperprow.specs.declared.VerdictAnswer.{VerdictAnswer}
use Rattle.juniperprow.specs.declared.CellAnswer.{CellAnswer}
use Rattle.juniperprow.specs.HostAnswers.{verdict_answer, ToldByNumber, cell_answer, ReserveAnswered, WorkbookAnswered, CellAnswered, RowAnswered}

-- where only an accepted verdict has the number 0
by_number : (v : Verdict) {h : VerdictAnswer} → (number v ≡ 0 → v ≡ accepted) → h ≡ verdict_answer v → ToldByNumber h v
unfolding verdict_answer number
by_number v only g = (
  (λ z. only (ap nat_abs (sym (ap (λ (x : VerdictAnswer). x.number) g) ∙ z))),
  (λ a. ap (λ (x : VerdictAnswer). x.number) g ∙ ap (λ (x : Verdict). pos (number x)) a),
)

-- what the calls below promise of both lists, of a workbook, of a cell and of a row
pub reserve_answered : (t : Triangle) (f r : ℕ) {v : Verdict} {future reserves : List ℤ}
    → (answer_of v future reserves ≡ answer t f r) × (Demand1 t f r v future reserves
    × ((v ≡ accepted → Demand2 t future reserves) × (v ≡ accepted → Demand3 (method t) future reserves)))
    → (h : VerdictAnswer) → h ≡ verdict_answer v → ReserveAnswered t f r h future reserves
reserve_answered t f r {v} e h g = record {
  verdict = v;
  told = g;
  told_by_number = by_number v (number_0_of_call e.1.0) g;
  whole = e.0;
  demand_1 = e.1.0;
  demand_2 = e.1.1.0;
  demand_3 = e.1.1.1;
}

pub workbook_answered : (b : Workbook) (f p : ℕ) {v : Verdict} {future : List ℤ} {pairs : List Float}
    → (workbook_answer_of v future pairs ≡ workbook_answer b f p) × (Demand1OfWorkbook b f p v future pairs × (v ≡ accepted → WorkbookAgrees b future pairs))
    → (h : VerdictAnswer) → h ≡ verdict_answer v → WorkbookAnswered b f p h future pairs
workbook_answered b f p {v} e h g = record {
  verdict = v;
  told = g;
  told_by_number = by_number v (number_0_of_workbook e.1.0) g;
  whole = e.0;
  demand_1 = e.1.0;
  agrees = e.1.1;
}

pub cell_answered : (t : Triangle) (i k : ℤ) {c : meaning.CellAnswer}
    → (c ≡ single_cell t i k) × (Demand1OfCell t i k c × (c.verdict ≡ accepted → CellOfFuture t i k c))
    → (h : CellAnswer) → h ≡ cell_answer c → CellAnswered t i k h
unfolding cell_answer
cell_answered t i k {c} e h g = record {
  cell = c;
  told = g;
  told_by_number = by_number c.verdict (number_0_of_cell e.1.0) (ap (λ (x : CellAnswer). x.verdict) g);
  whole = e.0;
  demand_1 = e.1.0;
  of_future = e.1.1;
}

pub row_answered : (years : ℤ) (payment_list adjustment_list : List ℤ) (i : ℤ) {v : Verdict}
    → (v ≡ row_verdict years payment_list adjustment_list i) × Demand1OfRow years payment_list adjustment_list i v
    → (h : VerdictAnswer) → h ≡ verdict_answer v → RowAnswered years payment_list adjustment_list i h
row_answered years payment_list adjustment_list i {v} e h g = record {
  verdict = v;
  told = g;
  told_by_number = by_number v (number_0_of_row years payment_list adjustment_list i e.1) g;
  whole = e.0;
  demand_1 = e.1;
}
