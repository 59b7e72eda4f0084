-- The demands of whatever equals the definition's answer, as what a call gives back and leaves does.
use mathlib.Core.Path.{◌≡◌, sym, ap, ◌∙◌, subst}
use mathlib.Core.List.{List}
use Prim.Native.Nat.{ℕ}
use lib.IntN.{ℤ}
use Rattle.method.specs.Verdicts.{Verdict, accepted}
use Rattle.method.specs.Triangle.{Triangle}
use Rattle.method.specs.RunOff.{method}
use Rattle.method.specs.Answers.{Answer, answer, CellAnswer, single_cell, row_verdict}
use Rattle.method.specs.Demand1.{Demand1, Demand1OfCell, Demand1OfRow}
use Rattle.method.specs.Demand2.{Demand2}
use Rattle.method.specs.Demand3.{Demand3, CellOfFuture}
use Rattle.method.proofs.ProofOfDemand1.{demand_1}
use Rattle.method.proofs.ProofOfDemand2.{demand_2}
use Rattle.method.proofs.ProofOfDemand3.{demand_3}
use Rattle.method.proofs.SingleCell.{single_cell_agrees}

module _ (t : Triangle) (f r : ℕ) {a : Answer} (e : a ≡ answer t f r) where
  said : a.verdict ≡ accepted → (answer t f r).verdict ≡ accepted
  said h = sym (ap (λ (x : Answer). x.verdict) e) ∙ h

  pub demand_1_of_answer : Demand1 t f r a.verdict a.future a.reserves
  demand_1_of_answer = subst (λ (x : Answer). Demand1 t f r x.verdict x.future x.reserves) (sym e) (demand_1.both_lists t f r)

  pub demand_2_of_answer : a.verdict ≡ accepted → Demand2 t a.future a.reserves
  demand_2_of_answer h = subst (λ (x : Answer). Demand2 t x.future x.reserves) (sym e) (demand_2 t f r (said h))

  pub demand_3_of_answer : a.verdict ≡ accepted → Demand3 (method t) a.future a.reserves
  demand_3_of_answer h = subst (λ (x : Answer). Demand3 (method t) x.future x.reserves) (sym e) (demand_3 t f r (said h))

module _ (t : Triangle) (i k : ℤ) {c : CellAnswer} (e : c ≡ single_cell t i k) where
  pub demand_1_of_cell_answer : Demand1OfCell t i k c
  demand_1_of_cell_answer = subst (Demand1OfCell t i k) (sym e) (demand_1.cell t i k)

  pub cell_answer_of_future : c.verdict ≡ accepted → CellOfFuture t i k c
  cell_answer_of_future h = subst (CellOfFuture t i k) (sym e) ((single_cell_agrees t i k).1 (sym (ap (λ (x : CellAnswer). x.verdict) e) ∙ h))

pub demand_1_of_row_verdict : (years : ℤ) (payment_list adjustment_list : List ℤ) (i : ℤ) {v : Verdict} → v ≡ row_verdict years payment_list adjustment_list i
    → Demand1OfRow years payment_list adjustment_list i v
demand_1_of_row_verdict years payment_list adjustment_list i e =
    subst (Demand1OfRow years payment_list adjustment_list i) (sym e) (demand_1.row years payment_list adjustment_list i)
