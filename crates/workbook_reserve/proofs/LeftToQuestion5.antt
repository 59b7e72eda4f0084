-- "One too large is left to question 5": a triangle with what is stored in place of its amounts is refused as the triangle itself is, and where
-- question 5 accepts, nothing else than the amounts was stored.
use mathlib.Core.Path.{◌≡◌, refl, sym, ap, ◌∙◌, subst}
use mathlib.Core.List.{List, [], ◌∷◌, map}
use Prim.Native.Nat.{ℕ, zero, suc, ◌+◌, ◌≤◌, ◌<◌}
use native.Mathlib.Omega.{arith}
use lib.IntN.{ℤ, pos, nat_abs}
use lib.ListN.{length, get_or, length-map}
use lib.Seq.{ext_get_or}
use Rattle.method.specs.Limits.{greatest_amount}
use Rattle.method.specs.Triangle.{Triangle, n, Y, amounts_length, cell}
use Rattle.method.specs.Tests.{amount_right}
use Rattle.method.specs.Verdicts.{Verdict, accepted, refused, ◌then◌, each_cell}
use Rattle.method.specs.Questions.{question_5}
use Rattle.method.specs.QuestionParts.{questions_5_to_9}
use Rattle.method.specs.Demand1.{InputLengthsRight}
use Rattle.method.proofs.FirstRefusal.{then_stops, then_accepted}
use Rattle.method.proofs.Positions.{cell_at, AmountPlace, every_amount_place}
use Rattle.method.proofs.QuestionFacts.{AmountRight, payments_right, adjustments_right}
use Rattle.workbook_cells.specs.Conversion.{stored}
use Rattle.workbook_cells.proofs.Stored.{amount_stored, right_as_stored}

abbrev pub as_stored : Triangle → Triangle
as_stored t = record {
  years = t.years;
  cut = t.cut;
  payments = map stored t.payments;
  adjustments = map stored t.adjustments;
  weights = t.weights;
  openings = t.openings;
}

-- ---- Cell by cell

stored_at : (xs : List ℤ) (j : ℕ) → get_or (map stored xs) j (pos 0) ≡ stored (get_or xs j (pos 0))
stored_at [] j = refl
stored_at (x ∷ xs) zero = refl
stored_at (x ∷ xs) (suc j) = stored_at xs j

cell_stored : (m : ℕ) (xs : List ℤ) (i k : ℕ) → cell (pos 0) m (map stored xs) i k ≡ stored (cell (pos 0) m xs i k)
unfolding cell
cell_stored m xs zero k = refl
cell_stored m xs (suc r) zero = refl
cell_stored m xs (suc r) (suc j) = stored_at xs _

-- ---- Question 5

module _ (t : Triangle) where
  same_test : (xs : List ℤ) (i k : ℕ) → amount_right (Y t) i k (cell (pos 0) (n t) (map stored xs) i k) ≡ amount_right (Y t) i k (cell (pos 0) (n t) xs i k)
  same_test xs i k = ap (amount_right (Y t) i k) (cell_stored (n t) xs i k) ∙ right_as_stored (Y t) i k (cell (pos 0) (n t) xs i k)

  question_5_as_stored : question_5 (as_stored t) ≡ question_5 t
  unfolding question_5
  question_5_as_stored d = each_cell (n t) 5 (λ i k. same_test t.payments i k d) then each_cell (n t) 5 (λ i k. same_test t.adjustments i k d)

  module _ (l : InputLengthsRight t) where
    -- a list whose cells are all within the limit of amounts
    list_stored : (xs : List ℤ) → length xs ≡ amounts_length (n t)
        → ((i k : ℕ) → 1 ≤ i → 1 ≤ k → i + k ≤ n t + 1 → AmountRight (Y t) i k (cell (pos 0) (n t) xs i k)) → map stored xs ≡ xs
    list_stored xs long right = ext_get_or (pos 0) (map stored xs) xs (length-map xs stored) each
      where
        small : (place : ℕ) → AmountPlace (n t) place → nat_abs (get_or xs place (pos 0)) ≤ nat_abs greatest_amount
        small place p =
            subst (λ (x : ℤ). nat_abs x ≤ nat_abs greatest_amount) (cell_at (pos 0) (n t) xs p.r p.j ∙ ap (λ (x : ℕ). get_or xs x (pos 0)) p.stands_there)
            (right (suc p.r) (suc p.j) (omega arith) (omega arith) (omega (arith, p.inside))).in_range

        each : (j : ℕ) → j < length (map stored xs) → get_or (map stored xs) j (pos 0) ≡ get_or xs j (pos 0)
        each j h =
            stored_at xs j
            ∙ amount_stored (get_or xs j (pos 0)) (omega (arith, small j (every_amount_place (n t) j (omega (arith, length-map xs stored)))))

    stored_unchanged : question_5 t ≡ accepted → as_stored t ≡ t
    stored_unchanged e =
        let paid = list_stored t.payments l.payments (payments_right t e) in
        let adjusted = list_stored t.adjustments l.adjustments (adjustments_right t e) in
        λ d. record { years = t.years; cut = t.cut; payments = paid d; adjustments = adjusted d; weights = t.weights; openings = t.openings }

    pub questions_as_stored : questions_5_to_9 (as_stored t) ≡ questions_5_to_9 t
    unfolding questions_5_to_9
    questions_as_stored = go (question_5 t) refl
      where
        go : (v : Verdict) → question_5 t ≡ v → questions_5_to_9 (as_stored t) ≡ questions_5_to_9 t
        go accepted e = ap questions_5_to_9 (stored_unchanged e)
        go (refused question p) e = then_stops _ (then_stops _ (question_5_as_stored ∙ e)) ∙ sym (then_stops _ (then_stops _ e))

    pub accepted_as_stored : questions_5_to_9 t ≡ accepted → as_stored t ≡ t
    unfolding questions_5_to_9
    accepted_as_stored e = stored_unchanged (then_accepted _ _ (then_accepted _ _ e).0).0
