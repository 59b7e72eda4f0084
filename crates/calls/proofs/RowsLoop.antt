-- All rows, projected one after another: both lists fill from the left.
use mathlib.Core.Path.{◌≡◌, refl, sym, ap, ◌∙◌, subst}
use mathlib.Core.List.{List, [], ◌∷◌, ◌++◌}
use Prim.Native.Nat.{ℕ, suc, ◌+◌, ◌*◌, ◌-◌, ◌≤◌, ◌<◌}
use native.Mathlib.Numerals.{add-one}
use native.Mathlib.Omega.{arith}
use lib.IntN.{ℤ}
use lib.ListN.{length, take}
use lib.Seq.{sets, length-sets, take_all}
use Rattle.std.proofs.Common.{Some, Ok, Err}
use Rattle.lists.proofs.Stored.{sets_filled}
use Rattle.method.specs.Counting.{list_to}
use Rattle.method.specs.Triangle.{future_length, reserves_length}
use Rattle.method.specs.RunOff.{Method, future_row, future, reserves_row, reserves}
use Rattle.method.specs.Verdicts.{accepted}
use Rattle.method.specs.Questions.{question_9_of_year, question_9}
use Rattle.method.specs.AnswerPlaces.{unseen_before}
use Rattle.method.proofs.Counting.{up_to_none, up_to_more}
use Rattle.method.proofs.FirstRefusal.{not_both, PassedSoFar, none_asked, next_accepted, next_refused, all_accepted}
use Rattle.method.proofs.Positions.{unseen_before_more, unseen_before_mono, unseen_cells}
use Rattle.verdicts.specs.declared.verdict.Refusal.{Refusal}
use Rattle.verdicts.specs.Verdicts.{refused_by}
use Rattle.run_off.specs.declared.rows.ProjectedRow.{ProjectedRow}
use Rattle.run_off.specs.Rows.{RowWritten}
use Rattle.run_off.proofs.RowAnswers.{row_list_length, figures_in_place, reserves_answered}
use Rattle.calls.specs.Answers.{RowsProjected}

-- after r rows
pub record RowsSoFar (m : Method) (future_list reserve_list : List ℤ) (r : ℕ) : Type 0 where
  pub asked : PassedSoFar m.years (question_9_of_year m) r
  pub future_whole : length future_list ≡ future_length m.years
  pub reserves_whole : length reserve_list ≡ reserves_length m.years
  pub future_filled : take (future_length r) future_list ≡ list_to r (future_row m)
  pub reserves_filled : take (3 * r) reserve_list ≡ list_to r (reserves_row m)

-- the first r rows have 3 figures for each of their cells
rows_length : (r : ℕ) → 3 * unseen_before (suc r) ≡ future_length r
rows_length r = ap (λ (x : ℕ). 3 * x) (unseen_cells r)

module _ {m : Method} {future_list reserve_list : List ℤ} where
  pub no_row_projected : length future_list ≡ future_length m.years → length reserve_list ≡ reserves_length m.years → RowsSoFar m future_list reserve_list 0
  no_row_projected f r = record {
    asked = none_asked _ _;
    future_whole = f;
    reserves_whole = r;
    future_filled = sym (up_to_none ◌++◌ [] _);
    reserves_filled = sym (up_to_none ◌++◌ [] _);
  }

  module _ {r : ℕ} (s : RowsSoFar m future_list reserve_list r) where
    module _ (more : r < m.years) {place : ℕ} (place_is : place ≡ future_length r) where
      next_place : place + 3 * r ≡ future_length (suc r)
      next_place = omega (arith, place_is, rows_length r, rows_length (suc r), unseen_before_more (suc r))

      pub future_room : place + 3 * (r + 1 - 1) ≤ length future_list
      future_room = omega (arith, next_place, s.future_whole, rows_length (suc r), rows_length m.years, unseen_before_mono (suc (suc r)) (suc m.years) (omega arith))

      pub reserves_room : 3 * r + 3 ≤ length reserve_list
      reserves_room = omega (arith, s.reserves_whole)

      pub row_refused : {after : List ℤ} {refusal : Refusal} → RowWritten m (r + 1) (Some place) future_list (Err refusal) after → RowsProjected m (refused_by refusal) after reserve_list
      unfolding question_9
      row_refused w = record {
        verdict_is = sym (next_refused s.asked more (sym w.answered.verdict_is));
        future_is = λ a. absurd (not_both a refl);
        reserves_are = λ a. absurd (not_both a refl);
      }

      module _ {after : List ℤ} {row : ProjectedRow} (w : RowWritten m (r + 1) (Some place) future_list (Ok row) after) where
        abbrev three : List ℤ
        three = row.paid.0 ∷ row.incurred.0 ∷ row.closing.0 ∷ []

        figures_written : take (place + 3 * r) after ≡ take place future_list ++ future_row m (suc r)
        figures_written =
            let f : r ≡ r + 1 - 1 = omega arith in
            ap (λ (x : ℕ). take (place + 3 * x) after) f ∙ figures_in_place w future_room
            ∙ ap (λ (i : ℕ). take place future_list ++ future_row m i) (add-one r)

        reserves_written : take (3 * suc r) (sets reserve_list (3 * r) three) ≡ take (3 * r) reserve_list ++ reserves_row m (suc r)
        reserves_written =
            let f : 3 * suc r ≡ 3 * r + 3 = omega arith in
            ap (λ (x : ℕ). take x (sets reserve_list (3 * r) three)) f ∙ sets_filled three reserve_list (3 * r) reserves_room
            ∙ ap (λ (xs : List ℤ). take (3 * r) reserve_list ++ xs) (reserves_answered w ∙ ap (reserves_row m) (add-one r))

        pub next_row : RowsSoFar m after (sets reserve_list (3 * r) three) (r + 1)
        next_row = subst (RowsSoFar m after (sets reserve_list (3 * r) three)) (sym (add-one r)) (record {
          asked = subst (PassedSoFar m.years (question_9_of_year m)) (add-one r) (next_accepted s.asked more (sym w.answered.verdict_is));
          future_whole = row_list_length w ∙ s.future_whole;
          reserves_whole = length-sets reserve_list (3 * r) three ∙ s.reserves_whole;
          future_filled = ap (λ (x : ℕ). take x after) (sym next_place) ∙ figures_written ∙ ap (λ (x : ℕ). take x future_list ++ future_row m (suc r)) place_is ∙ ap (λ (xs : List ℤ). xs ++ future_row m (suc r)) s.future_filled ∙ sym (up_to_more ◌++◌ [] r (future_row m));
          reserves_filled = reserves_written ∙ ap (λ (xs : List ℤ). xs ++ reserves_row m (suc r)) s.reserves_filled ∙ sym (up_to_more ◌++◌ [] r (reserves_row m));
        })

    pub all_rows : m.years ≤ r → RowsProjected m accepted future_list reserve_list
    unfolding question_9 future reserves
    all_rows h =
        let e : r ≡ m.years = omega (arith, s.asked.within) in
        let p : length future_list ≤ future_length r = omega (arith, s.future_whole, ap future_length e) in
        let q : length reserve_list ≤ 3 * r = omega (arith, s.reserves_whole) in
        record {
          verdict_is = sym (all_accepted s.asked h);
          future_is = λ _. sym (take_all (future_length r) future_list p) ∙ s.future_filled ∙ ap (λ (x : ℕ). list_to x (future_row m)) e;
          reserves_are = λ _. sym (take_all (3 * r) reserve_list q) ∙ s.reserves_filled ∙ ap (λ (x : ℕ). list_to x (reserves_row m)) e;
        }
