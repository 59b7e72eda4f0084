-- The call for a single cell: accepted and refused, its whole answer is the definition's.
use mathlib.Core.Path.{◌≡◌, refl, sym, ap, ◌∙◌}
use Prim.Native.Nat.{ℕ, ◌+◌, ◌-◌, ◌<◌}
use native.Mathlib.Omega.{arith}
use lib.IntN.{ℤ, nat_abs}
use Rattle.std.proofs.Common.{None, Result, Ok, Err}
use Rattle.method.specs.Triangle.{Triangle, n}
use Rattle.method.specs.RunOff.{movement, method}
use Rattle.method.specs.AnswerPlaces.{AccidentYear}
use Rattle.method.specs.Verdicts.{Place, Verdict, accepted, refused}
use Rattle.method.specs.Questions.{question_9_of_year, question_9, questions, question_10, input_lengths_right, cell_unseen}
use Rattle.method.specs.Answers.{refused_cell, cell_verdict, cell_figures, single_cell}
use Rattle.method.specs.Demand1.{Demand1OfCell}
use Rattle.method.specs.Demand3.{CellOfFuture}
use Rattle.method.proofs.Demands.{demand_1_of_cell_answer, cell_answer_of_future}
use Rattle.method.proofs.FirstRefusal.{ask_accepted, first_accepted, stopped, went_on}
use Rattle.method.proofs.QuestionFacts.{YearsInRange, UnseenCell, unseen_cell}
use Rattle.method.proofs.SameRows.{same_movement}
use Rattle.verdicts.specs.declared.verdict.Refusal.{Refusal}
use Rattle.verdicts.specs.Verdicts.{refused_by, verdict_of}
use Rattle.ratios.specs.declared.Development.{Development}
use Rattle.triangle.specs.Reading.{ReadingOf}
use Rattle.prepared_years.specs.declared.triangle.PreparedTriangle.{PreparedTriangle}
use Rattle.prepared_years.specs.PreparedTriangles.{Prepared}
use Rattle.projection.specs.declared.Movement.{Movement}
use Rattle.projection.specs.Year.{movement_of}
use Rattle.run_off.specs.MethodRead.{method_read}
use Rattle.run_off.proofs.ReadTriangles.{PreparedOf, accepted_reading, years_observed, prepared_reading, with_question_9, rows_as_in_the_triangle}
use Rattle.single_cell.specs.Cells.{CellYear}
use Rattle.single_cell.specs.Answers.{cell_of}

module _ (t : Triangle) (i k : ℤ) where
  -- ---- Refused

  refused_whole : {question : ℕ} {w : Place} → refused question w ≡ cell_verdict t i k → refused_cell (refused question w) ≡ single_cell t i k
  unfolding single_cell cell_figures
  refused_whole e = ap (cell_figures t i k) e

  pub refused_reading : {x : Refusal} → ReadingOf t None (Err x) → refused_cell (refused_by x) ≡ single_cell t i k
  unfolding cell_verdict questions
  refused_reading r = refused_whole (stopped _ (stopped _ r.verdict_is refl) refl)

  module _ {d : Development} {p : PreparedTriangle} (r : ReadingOf t None (Ok d)) (e : Prepared (n t) d.ratios d.outstandings p) where
    of_triangle : PreparedOf t p
    of_triangle = prepared_reading r e

    years_right : YearsInRange t.years
    years_right = (years_observed r).years

    -- question 9 of what was read is the triangle's
    nine : {v : Verdict} → v ≡ question_9 (method_read p) → v ≡ questions t (input_lengths_right t)
    nine f = with_question_9 of_triangle (input_lengths_right t) (accepted_reading r) f

    pub refused_projection : {question : ℕ} {w : Place} → refused question w ≡ question_9 (method_read p) → refused_cell (refused question w) ≡ single_cell t i k
    unfolding cell_verdict
    refused_projection f = refused_whole (stopped _ (nine f) refl)

    module _ (q : accepted ≡ question_9 (method_read p)) where
      ten : {v : Verdict} → v ≡ question_10 (cell_unseen t.years i k) → v ≡ cell_verdict t i k
      unfolding cell_verdict
      ten f = went_on (sym (nine q)) f

      pub refused_years : {question : ℕ} {w : Place} → refused question w ≡ question_10 (cell_unseen t.years i k) → refused_cell (refused question w) ≡ single_cell t i k
      refused_years f = refused_whole (ten f)

      -- ---- Accepted

      module _ (f : accepted ≡ question_10 (cell_unseen t.years i k)) where
        pub unseen : UnseenCell (n t) i k
        unfolding question_10
        unseen = unseen_cell _ _ _ years_right (ask_accepted _ 10 _ (sym f))

        pub cell_year : CellYear p (nat_abs i) (nat_abs k)
        unfolding question_9
        cell_year =
            let row : AccidentYear p.n (nat_abs i) = record { first = omega (arith, unseen.first); last = omega (arith, unseen.last, of_triangle.n_is) } in
            record {
              row = row;
              from_last_observed = omega (arith, unseen.unseen, of_triangle.n_is);
              last_year = omega (arith, unseen.last_year, of_triangle.n_is);
              passed = first_accepted p.n (question_9_of_year (method_read p)) (sym q) (nat_abs i) row.first row.last;
            }

        pub cell_later : p.n + 1 < nat_abs i + nat_abs k
        cell_later = omega (arith, unseen.unseen, of_triangle.n_is)

        movement_as_in_the_triangle : movement (method_read p) (nat_abs i) (nat_abs k - 1) ≡ movement (method t) (nat_abs i) (nat_abs k - 1)
        movement_as_in_the_triangle =
            let c = cell_year in
            same_movement c.row.first c.row.last (rows_as_in_the_triangle of_triangle (nat_abs i) c.row.first c.row.last) (nat_abs k - 1)
            (record {
              row = c.row.last;
              after = omega (arith, unseen.unseen, of_triangle.n_is);
              year = omega (arith, unseen.unseen, unseen.last, unseen.last_year, of_triangle.n_is);
            })

        pub accepted_whole : {m : Movement} → m ≡ movement_of (movement (method_read p) (nat_abs i) (nat_abs k - 1)) → cell_of (Ok m) ≡ single_cell t i k
        unfolding single_cell cell_figures
        accepted_whole d =
            ap (λ (x : Movement). cell_of (Ok x)) (d ∙ ap movement_of movement_as_in_the_triangle) ∙ ap (cell_figures t i k) (ten f)

  -- ---- Every clause of the call follows from the whole answer

  pub with_demands : (r : Result Movement Refusal) → cell_of r ≡ single_cell t i k
      → record { whole : cell_of r ≡ single_cell t i k; demand_1 : Demand1OfCell t i k (cell_of r); of_future : verdict_of r ≡ accepted → CellOfFuture t i k (cell_of r) }
  with_demands r e = record { whole = e; demand_1 = demand_1_of_cell_answer t i k e; of_future = λ a. cell_answer_of_future t i k e (same_verdict r ∙ a) }
    where
      same_verdict : (r : Result Movement Refusal) → (cell_of r).verdict ≡ verdict_of r
      same_verdict (Ok m) = refl
      same_verdict (Err x) = refl
