-- Workbook-agrees, proved for every accepted workbook. Assumes nothing.
-- Where all questions accept the workbook, document 01's accept the converted triangle; its reserves are of 64 bits, and so their pairs are exact.
use mathlib.Core.Path.{◌≡◌, refl, sym, ap, ◌∙◌, subst}
use mathlib.Core.List.{List}
use Prim.Native.Nat.{ℕ, ◌+◌, ◌*◌, ◌<◌}
use native.Mathlib.Omega.{arith}
use lib.IntN.{ℤ, pos}
use lib.ListN.{length, get_or}
use Rattle.floats.specs.WholeNumbers.{plus_zero}
use Rattle.method.specs.Triangle.{Triangle, future_length, reserves_length}
use Rattle.method.specs.RunOff.{future, reserves, method}
use Rattle.method.specs.Verdicts.{accepted, nowhere}
use Rattle.method.specs.Questions.{question_1, question_2, question_3, question_4, questions}
use Rattle.method.specs.QuestionParts.{questions_5_to_9}
use Rattle.method.specs.Answers.{Answer, answer}
use Rattle.method.specs.Demand1.{LengthsRight}
use Rattle.method.specs.Demand2.{Demand2}
use Rattle.method.specs.Demand3.{Demand3, filling_call}
use Rattle.method.proofs.FirstRefusal.{ask_yes, then_accepted, then_goes_on}
use Rattle.method.proofs.QuestionFacts.{lengths_accepted, says_lengths}
use Rattle.method.proofs.Lists.{reserves_has_length}
use Rattle.method.proofs.ReserveSizes.{reserve_size}
use Rattle.method.proofs.WholeAnswers.{filled_verdict, triangle_of_accepted_answer, accepted_answer}
use Rattle.method.proofs.ProofOfDemand1.{questions_in_two}
use Rattle.method.proofs.ProofOfDemand2.{demand_2}
use Rattle.method.proofs.ProofOfDemand3.{demand_3}
use Rattle.workbook.specs.Workbook.{Workbook, converted}
use Rattle.workbook.specs.Pairs.{pairs}
use Rattle.workbook.specs.Questions.{n, workbook_lengths_right, workbook_questions}
use Rattle.workbook.specs.Answers.{WorkbookAnswer}
use Rattle.workbook.specs.Demand1.{WorkbookLengthsRight}
use Rattle.workbook.specs.Agreement.{PairOf, amounts_told, WorkbookAgrees, EveryWorkbookAgrees}
use Rattle.workbook.proofs.CellTests.{says_workbook_lengths}
use Rattle.workbook.proofs.Conversion.{amounts_same_length}
use Rattle.workbook.proofs.Pairs.{length_pairs}
use Rattle.workbook.proofs.PairLists.{AllExact, pair_in_list, amounts_told_by_pairs}
use Rattle.workbook.proofs.WholeAnswers.{workbook_questions_accepted, accepted_workbook_answer}

-- ---- Where the questions of a workbook accept it

pub record AcceptedWorkbook (b : Workbook) : Type 0 where
  pub years : question_1 b.years ≡ accepted
  pub cut : question_2 b.years b.cut ≡ accepted
  pub lengths : LengthsRight (converted b) (future_length (n b)) (reserves_length (n b))
  pub weights : question_4 (converted b) ≡ accepted
  pub amounts : questions_5_to_9 (converted b) ≡ accepted

-- the lists of the converted triangle have their lengths
pub converted_lengths : (b : Workbook) {f p : ℕ} → WorkbookLengthsRight b f p → LengthsRight (converted b) (future_length (n b)) (reserves_length (n b))
converted_lengths b l = record {
  inputs = record {
    payments = amounts_same_length _ _ (l.payment_kinds ∙ sym l.payments) ∙ l.payments;
    adjustments = amounts_same_length _ _ (l.adjustment_kinds ∙ sym l.adjustments) ∙ l.adjustments;
    weights = l.weights;
    openings = l.openings;
  };
  future = refl;
  reserves = refl;
}

accepted_workbook : (b : Workbook) (f p : ℕ) → workbook_questions b (workbook_lengths_right b f p) ≡ accepted → AcceptedWorkbook b
unfolding workbook_questions
accepted_workbook b f p e =
    let (first, e2) = then_accepted _ _ e in
    let (second, e3) = then_accepted _ _ e2 in
    let (third, e4) = then_accepted _ _ e3 in
    let (fourth, e11) = then_accepted _ _ e4 in
    let (eleventh, e12) = then_accepted _ _ e11 in
    let (twelfth, e13) = then_accepted _ _ e12 in
    let (thirteenth, later) = then_accepted _ _ e13 in
    record {
      years = first;
      cut = second;
      lengths = converted_lengths b ((says_workbook_lengths b f p).sound (lengths_accepted _ third));
      weights = fourth;
      amounts = later;
    }

-- ---- The converted triangle is accepted too

module _ (b : Workbook) (a : AcceptedWorkbook b) where
  abbrev t : Triangle
  t = converted b

  filling_call_accepts : (filling_call t).verdict ≡ accepted
  unfolding answer question_3
  filling_call_accepts =
      filled_verdict (method t) _ _ (questions t _)
      ∙ questions_in_two t _
      ∙ then_goes_on _ a.years ∙ then_goes_on _ a.cut ∙ then_goes_on _ (ask_yes _ 3 nowhere ((says_lengths t _ _).complete a.lengths))
      ∙ then_goes_on _ a.weights ∙ a.amounts

  same_answer : filling_call t ≡ record { verdict = accepted; future = future (method t); reserves = reserves (method t) }
  same_answer = accepted_answer t _ _ filling_call_accepts

  exact : AllExact (reserves (method t))
  exact j h = omega (arith, reserve_size t (triangle_of_accepted_answer t _ _ filling_call_accepts) j h)

  told : amounts_told (pairs (reserves (method t))) ≡ reserves (method t)
  told = amounts_told_by_pairs (reserves (method t)) exact

  same_reserves : reserves (method t) ≡ (filling_call t).reserves
  same_reserves = sym (ap (λ (x : Answer). x.reserves) same_answer)

  same_future : future (method t) ≡ (filling_call t).future
  same_future = sym (ap (λ (x : Answer). x.future) same_answer)

  agrees : WorkbookAgrees b (future (method t)) (pairs (reserves (method t)))
  agrees = record {
    triangle_accepted = filling_call_accepts;
    same_future = same_future;
    pairs_whole = omega (arith, length_pairs (reserves (method t)), reserves_has_length (method t));
    each_pair = subst (λ (zs : List ℤ). (j : ℕ) → j < length zs → PairOf (get_or zs j (pos 0)) (get_or (pairs (reserves (method t))) (2 * j) plus_zero) (get_or (pairs (reserves (method t))) (2 * j + 1) plus_zero))
        same_reserves (pair_in_list (reserves (method t)) exact);
    same_reserves = told ∙ same_reserves;
    demand_2 = subst (Demand2 t (future (method t))) (sym told) (subst (λ (x : Answer). Demand2 t x.future x.reserves) same_answer (demand_2 t _ _ filling_call_accepts));
    demand_3 = subst (Demand3 (method t) (future (method t))) (sym told)
        (subst (λ (x : Answer). Demand3 (method t) x.future x.reserves) same_answer (demand_3 t _ _ filling_call_accepts));
  }

pub workbook_agrees : EveryWorkbookAgrees
workbook_agrees b f p e =
    let asked = workbook_questions_accepted b f p e in
    subst (λ (x : WorkbookAnswer). WorkbookAgrees b x.future x.pairs) (sym (accepted_workbook_answer b f p asked)) (agrees b (accepted_workbook b f p asked))
