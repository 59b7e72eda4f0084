-- The call that fills both lists: accepted and refused, its whole answer is the definition's.
use mathlib.Core.Path.{◌≡◌, refl, sym, ap, ◌∙◌}
use mathlib.Core.Bool.{true, false, true≢false}
use mathlib.Core.List.{List}
use Prim.Native.Nat.{ℕ}
use lib.IntN.{ℤ, pos}
use lib.ListN.{replicate}
use Rattle.std.proofs.Common.{Some, Result, Ok, Err}
use Rattle.std.specs.Result.{is_err}
use Rattle.method.specs.Triangle.{Triangle, n, future_length, reserves_length}
use Rattle.method.specs.Verdicts.{Verdict, accepted}
use Rattle.method.specs.Questions.{questions, lengths_right}
use Rattle.method.specs.RunOff.{method}
use Rattle.method.specs.Answers.{answer}
use Rattle.method.specs.Demand1.{Demand1}
use Rattle.method.specs.Demand2.{Demand2}
use Rattle.method.specs.Demand3.{Demand3}
use Rattle.method.proofs.FirstRefusal.{not_both, stopped}
use Rattle.method.proofs.WholeAnswers.{filled_verdict, accepted_answer, refused_answer}
use Rattle.method.proofs.Demands.{demand_1_of_answer, demand_2_of_answer, demand_3_of_answer}
use Rattle.verdicts.specs.declared.verdict.Refusal.{Refusal}
use Rattle.verdicts.specs.Verdicts.{refused_by, verdict_of}
use Rattle.lent.specs.declared.AnswerLengths.{AnswerLengths}
use Rattle.ratios.specs.declared.Development.{Development}
use Rattle.triangle.specs.Reading.{ReadingOf}
use Rattle.prepared_years.specs.declared.triangle.PreparedTriangle.{PreparedTriangle}
use Rattle.prepared_years.specs.PreparedTriangles.{Prepared}
use Rattle.run_off.specs.MethodRead.{method_read}
use Rattle.run_off.proofs.ReadTriangles.{PreparedOf, accepted_reading, prepared_reading, lists_whole, with_question_9, future_as_in_the_triangle, reserves_as_in_the_triangle}
use Rattle.calls.specs.Answers.{answer_of, RowsProjected, Filled}

abbrev rooms : ℕ → ℕ → AnswerLengths
rooms future reserves = record { future = future; reserves = reserves }

module _ {t : Triangle} {future_room reserves_room : ℕ} where
  pub refused_before : {x : Refusal} {future reserves : List ℤ} → ReadingOf t (Some (rooms future_room reserves_room)) (Err x) → Filled t future_room reserves_room (refused_by x) future reserves
  unfolding questions
  refused_before r = record {
    verdict_is = stopped _ r.verdict_is refl;
    future_is = λ a. absurd (not_both a refl);
    reserves_are = λ a. absurd (not_both a refl);
  }

  module _ {d : Development} {p : PreparedTriangle} (r : ReadingOf t (Some (rooms future_room reserves_room)) (Ok d)) (e : Prepared (n t) d.ratios d.outstandings p) where
    of_triangle : PreparedOf t p
    of_triangle = prepared_reading r e

    pub lists_measured : (future_room ≡ future_length p.n) × (reserves_room ≡ reserves_length p.n)
    lists_measured =
        let (f, g) = lists_whole t (rooms future_room reserves_room) (accepted_reading r) in
        (f ∙ ap future_length (sym of_triangle.n_is), g ∙ ap reserves_length (sym of_triangle.n_is))

    pub projected : {v : Verdict} {future reserves : List ℤ} → RowsProjected (method_read p) v future reserves → Filled t future_room reserves_room v future reserves
    projected rows = record {
      verdict_is = with_question_9 of_triangle (lengths_right t future_room reserves_room) (accepted_reading r) rows.verdict_is;
      future_is = λ b. rows.future_is b ∙ future_as_in_the_triangle of_triangle;
      reserves_are = λ b. rows.reserves_are b ∙ reserves_as_in_the_triangle of_triangle;
    }

  -- ---- The whole answer

  module _ (v : Result (Unit {0}) Refusal) {future reserves : List ℤ} (f : Filled t future_room reserves_room (verdict_of v) future reserves) where
    pub refused_whole : is_err v ≡ true → answer_of (verdict_of v) (replicate future_room (pos 0)) (replicate reserves_room (pos 0)) ≡ answer t future_room reserves_room
    refused_whole = go v f
      where
        go : (v : Result (Unit {0}) Refusal) → Filled t future_room reserves_room (verdict_of v) future reserves → is_err v ≡ true
            → answer_of (verdict_of v) (replicate future_room (pos 0)) (replicate reserves_room (pos 0)) ≡ answer t future_room reserves_room
        go (Ok x) f e = absurd (true≢false (sym e))
        go (Err x) f e = sym (refused_answer t future_room reserves_room _ _ (sym f.verdict_is))

    pub accepted_whole : is_err v ≡ false → answer_of (verdict_of v) future reserves ≡ answer t future_room reserves_room
    unfolding answer
    accepted_whole = go v f
      where
        same : {v : Verdict} {a b c d : List ℤ} → a ≡ c → b ≡ d → answer_of v a b ≡ answer_of v c d
        same q r = cc

        go : (v : Result (Unit {0}) Refusal) → Filled t future_room reserves_room (verdict_of v) future reserves → is_err v ≡ false
            → answer_of (verdict_of v) future reserves ≡ answer t future_room reserves_room
        go (Err x) f e = absurd (true≢false e)
        go (Ok x) f e = same (f.future_is refl) (f.reserves_are refl) ∙ sym (accepted_answer t future_room reserves_room said)
          where
            said : (answer t future_room reserves_room).verdict ≡ accepted
            said = filled_verdict (method t) _ _ (questions t (lengths_right t future_room reserves_room)) ∙ sym f.verdict_is

-- ---- The demands

-- every clause of the call follows from the whole answer
pub with_demands : (t : Triangle) (f r : ℕ) {v : Verdict} {future reserves : List ℤ} → answer_of v future reserves ≡ answer t f r
    → record {
      whole : answer_of v future reserves ≡ answer t f r;
      demand_1 : Demand1 t f r v future reserves;
      demand_2 : v ≡ accepted → Demand2 t future reserves;
      demand_3 : v ≡ accepted → Demand3 (method t) future reserves;
    }
with_demands t f r e = record {
  whole = e;
  demand_1 = demand_1_of_answer t f r e;
  demand_2 = demand_2_of_answer t f r e;
  demand_3 = demand_3_of_answer t f r e;
}
