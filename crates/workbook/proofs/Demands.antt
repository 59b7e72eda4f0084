-- The demands of whatever equals the definition's answer, as what a call gives back and leaves does; and only an accepted call has the number 0.
use mathlib.Core.Path.{◌≡◌, sym, ap, ◌∙◌, subst}
use mathlib.Core.List.{List}
use Prim.Native.Nat.{ℕ, suc, ◌≤◌}
use native.Mathlib.Omega.{arith}
use lib.IntN.{ℤ}
use lib.Ieee.{Float}
use Rattle.method.specs.Verdicts.{Verdict, accepted, number}
use Rattle.method.proofs.Numbers.{number_0_is_accepted}
use Rattle.workbook.specs.Workbook.{Workbook}
use Rattle.workbook.specs.Answers.{WorkbookAnswer, workbook_answer}
use Rattle.workbook.specs.Demand1.{WorkbookLengthsRight, workbook_table, Demand1OfWorkbook}
use Rattle.workbook.specs.Agreement.{WorkbookAgrees}
use Rattle.workbook.proofs.ProofOfDemand1.{workbook_demand_1}
use Rattle.workbook.proofs.ProofOfAgreement.{workbook_agrees}

module _ (b : Workbook) (f p : ℕ) {a : WorkbookAnswer} (e : a ≡ workbook_answer b f p) where
  pub demand_1_of_workbook_answer : Demand1OfWorkbook b f p a.verdict a.future a.pairs
  demand_1_of_workbook_answer = subst (λ (x : WorkbookAnswer). Demand1OfWorkbook b f p x.verdict x.future x.pairs) (sym e) (workbook_demand_1 b f p)

  pub agrees_of_workbook_answer : a.verdict ≡ accepted → WorkbookAgrees b a.future a.pairs
  agrees_of_workbook_answer h =
      subst (λ (x : WorkbookAnswer). WorkbookAgrees b x.future x.pairs) (sym e)
      (workbook_agrees b f p (sym (ap (λ (x : WorkbookAnswer). x.verdict) e) ∙ h))

pub number_0_of_workbook : {b : Workbook} {f p : ℕ} {v : Verdict} {future : List ℤ} {pairs : List Float} → Demand1OfWorkbook b f p v future pairs
    → number v ≡ 0 → v ≡ accepted
number_0_of_workbook {b} {f} {p} {v} d =
    let above : (m : ℕ) (i k : ℕ) → 1 ≤ suc m = λ m i k. omega arith in
    number_0_is_accepted (workbook_table b (WorkbookLengthsRight b f p))
    (above 0, (above 1, (above 2, (above 3, (above 10, (above 10, (above 11, (above 11, (above 12, (above 12, (above 4, (above 4, (above 5, (above 6, (above 7, (above 8, tt))))))))))))))))
    v d.decided
