-- What the call leaves in its lists, by the questions that it has come to, and its whole answer.
use mathlib.Core.Path.{◌≡◌, refl, sym, ap, ◌∙◌}
use mathlib.Core.List.{List}
use Prim.Native.Nat.{ℕ}
use lib.IntN.{ℤ, pos}
use lib.Ieee.{Float}
use lib.ListN.{replicate, length-map}
use Rattle.std.proofs.Common.{true, false, true≢false, Result, Ok, Err}
use Rattle.std.specs.Prelude.{is_err}
use Rattle.verdicts.specs.declared.verdict.Refusal.{Refusal}
use Rattle.verdicts.specs.Verdicts.{verdict_of}
use Rattle.floats.specs.WholeNumbers.{plus_zero}
use Rattle.method.specs.Triangle.{Triangle, reserves_length}
use Rattle.method.specs.Triangle.{n as size}
use Rattle.method.specs.RunOff.{method}
use Rattle.method.specs.RunOff as meaning
use Rattle.method.specs.Verdicts.{Place, Verdict, accepted, refused, nowhere, ◌then◌}
use Rattle.method.specs.Questions.{question_3, question_4, questions, lengths_right}
use Rattle.method.specs.QuestionParts.{questions_5_to_9}
use Rattle.method.specs.Answers.{Answer, answer}
use Rattle.method.specs.Demand1.{InputLengthsRight, LengthsRight}
use Rattle.method.proofs.FirstRefusal.{not_both, ask_yes, then_accepted, then_goes_on, then_assoc, stopped, went_on}
use Rattle.method.proofs.QuestionFacts.{says_lengths}
use Rattle.method.proofs.WholeAnswers.{filled_verdict, accepted_answer}
use Rattle.method.proofs.ProofOfDemand1.{questions_in_two}
use Rattle.workbook.specs.Workbook.{Workbook, converted}
use Rattle.workbook.specs.Pairs.{pairs}
use Rattle.workbook.specs.Questions.{n, Y, question_11, question_12, question_13, workbook_lengths_right, workbook_questions}
use Rattle.workbook.specs.Answers.{workbook_answer}
use Rattle.workbook.specs.Demand1.{Demand1OfWorkbook}
use Rattle.workbook.specs.Agreement.{WorkbookAgrees}
use Rattle.workbook.proofs.WholeAnswers.{accepted_workbook_answer, refused_workbook_answer}
use Rattle.workbook.proofs.ProofOfAgreement.{converted_lengths}
use Rattle.workbook.proofs.Demands.{demand_1_of_workbook_answer, agrees_of_workbook_answer}
use Rattle.workbook_cells.specs.Conversion.{stored}
use Rattle.workbook_questions.specs.CellQuestions.{questions_11_to_13}
use Rattle.calls.specs.Answers.{answer_of}
use Rattle.workbook_reserve.specs.Workbooks.{workbook_answer_of, questions_1_to_4, FilledInPairs, WorkbookFilled}
use Rattle.workbook_reserve.proofs.LeftToQuestion5.{as_stored, questions_as_stored, accepted_as_stored}
use Rattle.workbook_reserve.proofs.AllLengths as measured

module _ (b : Workbook) (f p : ℕ) where
  abbrev cells : Verdict
  cells = questions_11_to_13 (n b) (Y b) b.payments b.adjustments

  asked_in_parts : (questions_1_to_4 b f p then cells then questions_5_to_9 (converted b)) ≡ workbook_questions b (workbook_lengths_right b f p)
  unfolding workbook_questions question_11 question_12 question_13
  asked_in_parts = simp then_assoc

  -- ---- Refused on the way

  refused_filled : {v : Verdict} {question : ℕ} {q : Place} {future : List ℤ} {list : List Float} → v ≡ workbook_questions b (workbook_lengths_right b f p) → v ≡ refused question q
      → WorkbookFilled b f p v future list
  refused_filled e r = record { verdict_is = e; future_is = λ a. absurd (not_both a r); pairs_are = λ a. absurd (not_both a r) }

  pub refused_before_cells : {v : Verdict} {question : ℕ} {q : Place} {future : List ℤ} {list : List Float} → v ≡ questions_1_to_4 b f p → v ≡ refused question q
      → WorkbookFilled b f p v future list
  refused_before_cells e r = refused_filled (stopped _ e r ∙ asked_in_parts) r

  module _ (four : questions_1_to_4 b f p ≡ accepted) where
    pub refused_at_cells : {v : Verdict} {question : ℕ} {q : Place} {future : List ℤ} {list : List Float} → v ≡ cells → v ≡ refused question q
        → WorkbookFilled b f p v future list
    refused_at_cells e r = refused_filled (went_on four (stopped _ e r) ∙ asked_in_parts) r

    -- ---- Filled, from the triangle as it is stored

    module _ (thirteen : cells ≡ accepted) where
      abbrev t : Triangle
      t = converted b

      inputs : InputLengthsRight t
      inputs = (converted_lengths b (measured.lengths_right b f p four)).inputs

      stored_lengths : LengthsRight (as_stored t) f (reserves_length (n b))
      stored_lengths = record {
        inputs = record {
          payments = length-map t.payments stored ∙ inputs.payments;
          adjustments = length-map t.adjustments stored ∙ inputs.adjustments;
          weights = inputs.weights;
          openings = inputs.openings;
        };
        future = (measured.lengths_right b f p four).future;
        reserves = refl;
      }

      -- questions 1 to 4 are those that were asked already
      questions_left : questions (as_stored t) (lengths_right (as_stored t) f (reserves_length (n b))) ≡ questions_5_to_9 t
      unfolding question_3 question_4
      questions_left =
          questions_in_two (as_stored t) _
          ∙ then_goes_on _ (then_accepted _ _ four).0 ∙ then_goes_on _ (then_accepted _ _ (then_accepted _ _ four).1).0
          ∙ then_goes_on _ (ask_yes _ 3 nowhere ((says_lengths (as_stored t) f (reserves_length (n b))).complete stored_lengths))
          ∙ then_goes_on _ (measured.weights_right b f p four) ∙ questions_as_stored t inputs

      pub filled_as_stored : {v : Verdict} {future : List ℤ} {list : List Float} → FilledInPairs (as_stored t) f v future list → WorkbookFilled b f p v future list
      filled_as_stored {v} g = record {
        verdict_is = went_on four (went_on thirteen later) ∙ asked_in_parts;
        future_is = λ a. g.future_is a ∙ ap (λ (x : Triangle). meaning.future (method x)) (same a);
        pairs_are = λ a. g.pairs_are a ∙ ap (λ (x : Triangle). pairs (meaning.reserves (method x))) (same a);
      }
        where
          later : v ≡ questions_5_to_9 t
          later = g.verdict_is ∙ questions_left

          same : v ≡ accepted → as_stored t ≡ t
          same a = accepted_as_stored t inputs (sym later ∙ a)

-- ---- The whole answer

module _ {b : Workbook} {f p : ℕ} (v : Result (Unit {0}) Refusal) {future : List ℤ} {list : List Float} (w : WorkbookFilled b f p (verdict_of v) future list) where
  pub refused_whole : is_err v ≡ true → workbook_answer_of (verdict_of v) (replicate f (pos 0)) (replicate p plus_zero) ≡ workbook_answer b f p
  refused_whole = go v w
    where
      go : (v : Result (Unit {0}) Refusal) → WorkbookFilled b f p (verdict_of v) future list → is_err v ≡ true
          → workbook_answer_of (verdict_of v) (replicate f (pos 0)) (replicate p plus_zero) ≡ workbook_answer b f p
      go (Ok x) w e = absurd (true≢false (sym e))
      go (Err x) w e = sym (refused_workbook_answer b f p _ _ (sym w.verdict_is))

  pub accepted_whole : is_err v ≡ false → workbook_answer_of (verdict_of v) future list ≡ workbook_answer b f p
  accepted_whole = go v w
    where
      same : {v : Verdict} {x y : List ℤ} {c d : List Float} → x ≡ y → c ≡ d → workbook_answer_of v x c ≡ workbook_answer_of v y d
      same q r = cc

      go : (v : Result (Unit {0}) Refusal) → WorkbookFilled b f p (verdict_of v) future list → is_err v ≡ false → workbook_answer_of (verdict_of v) future list ≡ workbook_answer b f p
      go (Err x) w e = absurd (true≢false e)
      go (Ok x) w e = same (w.future_is refl) (w.pairs_are refl) ∙ sym (accepted_workbook_answer b f p (sym w.verdict_is))

-- ---- The triangle's own answer, with its reserves as pairs

pub filled_by_answer : (t : Triangle) (f r : ℕ) {v : Verdict} {future reserves : List ℤ} {list : List Float} → r ≡ reserves_length (size t)
    → answer_of v future reserves ≡ answer t f r → (v ≡ accepted → list ≡ pairs reserves) → FilledInPairs t f v future list
unfolding answer
filled_by_answer t f r {v} {future} {reserves} long e written = record {
  verdict_is = verdict_is ∙ ap (λ (x : ℕ). questions t (lengths_right t f x)) long;
  future_is = λ a. ap (λ (x : Answer). x.future) (e ∙ accepted_answer t f r (said a));
  pairs_are = λ a. written a ∙ ap (λ (x : Answer). pairs x.reserves) (e ∙ accepted_answer t f r (said a));
}
  where
    verdict_is : v ≡ questions t (lengths_right t f r)
    verdict_is = ap (λ (x : Answer). x.verdict) e ∙ filled_verdict (method t) f r (questions t (lengths_right t f r))

    said : v ≡ accepted → (answer t f r).verdict ≡ accepted
    said a = sym (ap (λ (x : Answer). x.verdict) e) ∙ a

-- with what follows from it
pub with_demands : (b : Workbook) (f p : ℕ) {v : Verdict} {future : List ℤ} {list : List Float} → workbook_answer_of v future list ≡ workbook_answer b f p
    → (workbook_answer_of v future list ≡ workbook_answer b f p)
    × (Demand1OfWorkbook b f p v future list × (v ≡ accepted → WorkbookAgrees b future list))
with_demands b f p e = (e, (demand_1_of_workbook_answer b f p e, agrees_of_workbook_answer b f p e))
