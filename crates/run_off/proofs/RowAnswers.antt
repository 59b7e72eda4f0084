-- What is answered and written of an accident year, from its state: accepted where all its years are behind, refused where the next one is too large.
use mathlib.Core.Path.{◌≡◌, refl, sym, ap, ◌∙◌}
use Rattle.std.proofs.Common.{Option, Some, None, Result, Ok, Err}
use mathlib.Core.List.{List, [], ◌∷◌, ◌++◌}
use Prim.Native.Nat.{ℕ, suc, ◌+◌, ◌*◌, ◌-◌, ◌≤◌, ◌<◌}
use native.Mathlib.Nat.{add-zero}
use native.Mathlib.Numerals.{add-one}
use native.Mathlib.Omega.{arith}
use lib.IntN.{ℤ}
use lib.ListN.{length, take}
use lib.Seq.{sets, length-sets}
use Rattle.lists.proofs.Stored.{sets_append, sets_filled}
use Rattle.method.specs.ProjectedYear.{figures}
use Rattle.method.specs.RunOff.{Method, O, movement, last_observed, year_before, figures_to, future_row, paid_reserve, incurred_reserve, closing, reserves_row}
use Rattle.method.specs.Verdicts.{accepted, refused, at}
use Rattle.method.specs.Questions.{question_9_of_year}
use Rattle.method.proofs.Counting.{up_to_none, up_to_more}
use Rattle.method.proofs.Lists.{years_length, row_length}
use Rattle.method.proofs.FirstRefusal.{ask_no, next_refused, all_accepted}
use Rattle.verdicts.specs.declared.verdict.Refusal.{Refusal}
use Rattle.verdicts.specs.Verdicts.{refused_by}
use Rattle.projection.specs.declared.Movement.{Movement}
use Rattle.projection.specs.Year.{year_or_too_large, movement_of}
use Rattle.projection.proofs.Years.{too_large_year}
use Rattle.row_states.specs.declared.RowState.{RowState}
use Rattle.run_off.specs.declared.rows.ProjectedRow.{ProjectedRow}
use Rattle.run_off.specs.Rows.{row_state, first_payment, RowProjected, years_written, written_from, RoomFrom, RowWritten}
use Rattle.run_off.proofs.ProjectedYears.{RowSoFar}

module _ {m : Method} {i j : ℕ} {s : RowState} (r : RowSoFar m i j s) where
  -- ---- All years are behind

  module _ (first : 1 ≤ i) (last : i ≤ m.years) (done : i ≤ j + 1) where
    all_behind : j ≡ i - 1
    all_behind = omega (arith, r.asked.within)

    row_accepted : question_9_of_year m i ≡ accepted
    unfolding question_9_of_year
    row_accepted = all_accepted r.asked (omega arith)

    pub accepted_row : RowProjected m i (Ok (record { paid = s.paid; incurred = s.incurred; closing = s.outstanding; first_payment = s.first_payment }))
    unfolding row_state future_row reserves_row paid_reserve incurred_reserve closing
    accepted_row = record {
      verdict_is = sym row_accepted;
      figures_are = ap figures_of r.state_is ∙ ap (λ (j : ℕ). figures_of (row_state m i j)) all_behind ∙ ap (λ (k : ℕ). closing_at k) last_year;
    }
      where
        figures_of : RowState → List ℤ
        figures_of x = x.paid.0 ∷ x.incurred.0 ∷ x.outstanding.0 ∷ x.first_payment.0 ∷ []

        closing_at : ℕ → List ℤ
        closing_at k = paid_reserve m i ∷ incurred_reserve m i ∷ O m i k ∷ first_payment m i ∷ []

        last_year : last_observed m i + (i - 1) ≡ m.years
        last_year = omega arith

    pub years_all_written : years_written m i (question_9_of_year m i) ≡ j
    unfolding years_written
    years_all_written = rw row_accepted (sym all_behind)

  -- ---- The next year is too large

  module _ (last : i ≤ m.years) (more : j + 1 < i) (e : None ≡ year_or_too_large (movement m i (year_before m i (j + 1)))) where
    row_refused : question_9_of_year m i ≡ refused 9 (at i (m.years - i + j + 2))
    unfolding question_9_of_year
    row_refused =
        let place : suc (year_before m i (j + 1)) ≡ m.years - i + j + 2 = omega arith in
        next_refused r.asked (omega arith) (ask_no _ 9 _ (too_large_year _ e) ∙ ap (λ (k : ℕ). refused 9 (at i k)) place)

    pub refused_row : {refusal : Refusal} → refused_by refusal ≡ refused 9 (at i (m.years - i + j + 2)) → RowProjected m i (Err refusal)
    refused_row v = record { verdict_is = v ∙ sym row_refused; figures_are = tt }

    pub written_before : years_written m i (question_9_of_year m i) ≡ j
    unfolding years_written
    written_before = rw row_refused (omega arith)

-- ---- What is written

pub written_length : (start : Option ℕ) (place : ℕ) (figures list : List ℤ) → length (written_from start place figures list) ≡ length list
written_length (Some start) place figures list = length-sets list (start + place) figures
written_length None place figures list = refl

module _ (m : Method) (i : ℕ) where
  figures_more : (j : ℕ) → figures_to m i j ++ figures (movement m i (year_before m i (j + 1))) ≡ figures_to m i (j + 1)
  figures_more j = rw (add-one j) (sym (up_to_more ◌++◌ [] j _))

  -- the figures of the years behind stand in the list from a place on, where they are written, and the rest of it is as it was
  pub record WrittenSoFar (start : Option ℕ) (before after : List ℤ) (j : ℕ) (s : RowState) : Type 0 where
    pub row : RowSoFar m i j s
    pub list_is : after ≡ written_from start 0 (figures_to m i j) before

module _ {m : Method} {i : ℕ} where
  pub none_written : (start : Option ℕ) (before : List ℤ) {s : RowState} → RowSoFar m i 0 s → WrittenSoFar m i start before before 0 s
  none_written start before r = record { row = r; list_is = sym (go start) }
    where
      go : (start : Option ℕ) → written_from start 0 (figures_to m i 0) before ≡ before
      go (Some start) = ap (sets before (start + 0)) (up_to_none ◌++◌ [] _)
      go None = refl

  module _ {start : Option ℕ} {j : ℕ} {before after : List ℤ} {s : RowState} (w : WrittenSoFar m i start before after j s) where
    pub room : RoomFrom start (3 * (i - 1)) before → j + 1 < i → RoomFrom start (3 * j + 3) after
    room h more = go start h
      where
        same_length : length after ≡ length before
        same_length = ap length w.list_is ∙ written_length start 0 (figures_to m i j) before

        go : (start : Option ℕ) → RoomFrom start (3 * (i - 1)) before → RoomFrom start (3 * j + 3) after
        go (Some start) h = omega (arith, same_length)
        go None h = tt

    -- one year more
    pub one_more_written : {next : RowState} {x : Movement} → x ≡ movement_of (movement m i (year_before m i (j + 1))) → RowSoFar m i (j + 1) next
        → WrittenSoFar m i start before (written_from start (3 * j) (x.payment.0 ∷ x.adjustment.0 ∷ x.outstanding.0 ∷ []) after) (j + 1) next
    unfolding figures
    one_more_written {next} {x} e r = record {
      row = r;
      list_is = ap (λ (y : Movement). written_from start (3 * j) (y.payment.0 ∷ y.adjustment.0 ∷ y.outstanding.0 ∷ []) after) e
          ∙ ap (written_from start (3 * j) (figures (movement m i (year_before m i (j + 1))))) w.list_is
          ∙ go start;
    }
      where
        go : (start : Option ℕ) → written_from start (3 * j) (figures (movement m i (year_before m i (j + 1)))) (written_from start 0 (figures_to m i j) before)
            ≡ written_from start 0 (figures_to m i (j + 1)) before
        go (Some start) =
            let place : start + 3 * j ≡ start + 0 + length (figures_to m i j) = omega (arith, years_length m i j) in
            ap (λ (k : ℕ). sets (sets before (start + 0) (figures_to m i j)) k (figures (movement m i (year_before m i (j + 1))))) place
            ∙ sets_append before (start + 0) (figures_to m i j) _
            ∙ ap (sets before (start + 0)) (figures_more m i j)
        go None = refl

    -- all of them, or those before a refusal
    pub all_written : {row : Result ProjectedRow Refusal} → RowProjected m i row → years_written m i (question_9_of_year m i) ≡ j → RowWritten m i start before row after
    all_written p e = record { answered = p; list_is = w.list_is ∙ ap (λ (k : ℕ). written_from start 0 (figures_to m i k) before) (sym e) }

-- ---- A row that was written

module _ {m : Method} {i start : ℕ} {before after : List ℤ} where
  pub row_list_length : {row : Result ProjectedRow Refusal} → RowWritten m i (Some start) before row after → length after ≡ length before
  row_list_length w = ap length w.list_is ∙ written_length (Some start) 0 (figures_to m i (years_written m i (question_9_of_year m i))) before

  module _ {row : ProjectedRow} (w : RowWritten m i (Some start) before (Ok row) after) where
    accepted_year : question_9_of_year m i ≡ accepted
    accepted_year = sym w.answered.verdict_is

    -- its figures stand in their part of the list
    pub figures_in_place : start + 3 * (i - 1) ≤ length before → take (start + 3 * (i - 1)) after ≡ take start before ++ future_row m i
    unfolding future_row years_written
    figures_in_place h =
        let written : after ≡ sets before start (future_row m i) =
        w.list_is ∙ ap (λ v. written_from (Some start) 0 (figures_to m i (years_written m i v)) before) accepted_year
        ∙ ap (λ (k : ℕ). sets before k (future_row m i)) (add-zero start) in
        ap (take (start + 3 * (i - 1))) written
        ∙ ap (λ (x : ℕ). take (start + x) (sets before start (future_row m i))) (sym (row_length m i))
        ∙ sets_filled (future_row m i) before start (omega (arith, row_length m i))

    pub reserves_answered : (row.paid.0 ∷ row.incurred.0 ∷ row.closing.0 ∷ []) ≡ reserves_row m i
    unfolding reserves_row
    reserves_answered = ap (take 3) w.answered.figures_are
