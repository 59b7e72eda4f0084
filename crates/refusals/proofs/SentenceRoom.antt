-- Every line on a refusal has room: nothing of it is cut off, whatever its numbers are.
use mathlib.Core.Path.{◌≡◌, refl}
use mathlib.Core.Bool.{Bool, true, cond}
use mathlib.Core.List.{List, [], ◌∷◌}
use Prim.Native.Nat.{ℕ, ◌+◌, ◌*◌, ◌≤◌}
use lib.Dec.{leb, eqb}
use lib.IntN.{ℤ, pos, neg_ℤ}
use lib.ListN.{length}
use lib.Signed.{lt_z}
use Rattle.method.specs.Limits.{greatest_amount}
use Rattle.method.specs.Tests.{from_to}
use Rattle.printed.specs.Filling.{filled, places}
use Rattle.printed.proofs.Room.{one_of_two, filled_fits}
use Rattle.refusals.specs.declared.found.Lent.{Lent}
use Rattle.refusals.specs.declared.found.Found.{Found}
use Rattle.refusals.specs.Sentences.{refused_line, years_sentence, cut_sentence, lengths_sentence, weight_sentence, weight_not_0_sentence, amount_sentence, opening_sentence, outstanding_sentence, exposure_sentence, projected_sentence, seen_cell_sentence, amounts_sentence, observed_sentence, sentence, see_line, see_lines}

-- the text of one of two lines
either : (b : Bool) (x y : List ℕ) → length x ≤ 511 → length y ≤ 511 → length (cond b x y) ≤ 511
either = one_of_two length 511

pub refused_line_fits : (question : ℕ) (i k : ℤ) → length (refused_line question i k) ≤ 511
unfolding refused_line places
refused_line_fits question i k = filled_fits 511 _ _ refl

years_fits : (years : ℤ) → length (years_sentence years) ≤ 511
unfolding years_sentence places
years_fits years = filled_fits 511 _ _ refl

cut_fits : (cut years : ℤ) → length (cut_sentence cut years) ≤ 511
unfolding cut_sentence places
cut_fits cut years = filled_fits 511 _ _ refl

lengths_fits : (lent : Lent) → length (lengths_sentence lent) ≤ 511
unfolding lengths_sentence places
lengths_fits lent = filled_fits 511 _ _ refl

module _ (i k : ℤ) where
  weight_fits : (x : ℤ) → length (weight_sentence i k x) ≤ 511
  unfolding weight_sentence places
  weight_fits x = filled_fits 511 _ _ refl

  weight_not_0_fits : (x : ℤ) → length (weight_not_0_sentence i k x) ≤ 511
  unfolding weight_not_0_sentence places
  weight_not_0_fits x = filled_fits 511 _ _ refl

  amount_fits : (missing beyond : List ℕ) (x : ℤ) → leb (length missing + 28 * places missing) 511 ≡ true → leb (length beyond + 28 * places beyond) 511 ≡ true
      → length (amount_sentence i k x missing beyond) ≤ 511
  unfolding amount_sentence
  amount_fits missing beyond x p q =
      one_of_two (λ template. length (filled template (i ∷ k ∷ x ∷ []))) 511 (from_to (neg_ℤ greatest_amount) greatest_amount x) missing beyond
      (filled_fits 511 _ _ p) (filled_fits 511 _ _ q)

  opening_fits : (x : ℤ) → length (opening_sentence i k x) ≤ 511
  unfolding opening_sentence places
  opening_fits x = filled_fits 511 _ _ refl

  outstanding_fits : (x : ℤ) → length (outstanding_sentence i k x) ≤ 511
  unfolding outstanding_sentence places
  outstanding_fits x = either (lt_z x (pos 0)) _ _ (filled_fits 511 _ _ refl) (filled_fits 511 _ _ refl)

  projected_fits : length (projected_sentence i k) ≤ 511
  unfolding projected_sentence places
  projected_fits = filled_fits 511 _ _ refl

  seen_cell_fits : length (seen_cell_sentence i k) ≤ 511
  unfolding seen_cell_sentence places
  seen_cell_fits = filled_fits 511 _ _ refl

  amounts_fit : (found : Found) → length (amounts_sentence i k found) ≤ 511
  unfolding amounts_sentence places
  amounts_fit found = either found.payment_right _ _ (amount_fits _ _ found.adjustment refl refl) (amount_fits _ _ found.payment refl refl)

  observed_fits : (found : Found) → length (observed_sentence i k found) ≤ 511
  unfolding observed_sentence
  observed_fits found = either found.opening _ _ (opening_fits found.outstanding) (outstanding_fits found.outstanding)

exposure_fits : (k : ℤ) → length (exposure_sentence k) ≤ 511
unfolding exposure_sentence places
exposure_fits k = filled_fits 511 _ _ refl

pub sentence_fits : (question : ℕ) (i k : ℤ) (lent : Lent) (found : Found) → length (sentence question i k lent found) ≤ 511
unfolding sentence
sentence_fits question i k lent found =
    either (eqb question 1) _ _ (years_fits lent.years)
    (either (eqb question 2) _ _ (cut_fits lent.cut lent.years)
    (either (eqb question 3) _ _ (lengths_fits lent)
    (either (eqb question 4) _ _ (weight_fits i k found.weight)
    (either (eqb question 5) _ _ (amounts_fit i k found)
    (either (eqb question 6) _ _ (observed_fits i k found)
    (either (eqb question 7) _ _ (weight_not_0_fits i k found.weight)
    (either (eqb question 8) _ _ (exposure_fits k)
    (either (eqb question 9) _ _ (projected_fits i k) (seen_cell_fits _ _)))))))))

pub see_line_fits : (line : ℕ) → length (see_line line) ≤ 511
unfolding see_line places
see_line_fits line = filled_fits 511 _ _ refl

pub see_lines_fits : (first second : ℕ) → length (see_lines first second) ≤ 511
unfolding see_lines places
see_lines_fits first second = filled_fits 511 _ _ refl
