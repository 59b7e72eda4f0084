-- Document 01, "Questions at the counter": questions 1 to 10, in the order in which they are asked.
use Rattle.std.specs.Prelude.{Bool, ◌&&◌, ℕ, suc, ◌-◌, eqb, ℤ, pos, ◌+ℤ◌, length}
use Rattle.std.specs.Int.Signed.{le_z, lt_z}
use Rattle.method.specs.Verdicts.{Verdict, at, nowhere, ◌then◌, ask, first_to, each_cell}
use Rattle.method.specs.Tests.{from_to, years_in_range, cut_in_range, weight_in_range, amount_right, outstanding_in_range, weight_allowed, figure_in_range}
use Rattle.method.specs.Triangle.{Triangle, amounts_length, weights_length, openings_length, future_length, reserves_length, n, Y, S, T, w}
use Rattle.method.specs.Outstandings.{R, sums}
use Rattle.method.specs.ProjectedYear.{Movement}
use Rattle.method.specs.RunOff.{Method, movement, year_before, method}

-- ---- Questions 1 to 3; a row's call asks 1 and 3 too

-- the number of years
unfoldable pub question_1 : ℤ → Verdict
question_1 years = ask (years_in_range years) 1 nowhere

-- the cut
unfoldable pub question_2 : ℤ → ℤ → Verdict
question_2 years cut = ask (cut_in_range years cut) 2 nowhere

-- whether every list of the call has its length: `right` is the answer for the lists that this call lends
unfoldable pub question_3 : Bool → Verdict
question_3 right = ask right 3 nowhere

-- the three figures of a projected year
unfoldable pub figures_in_range : Movement → Bool
figures_in_range m = figure_in_range m.payment && figure_in_range m.adjustment && figure_in_range m.outstanding

module _ (t : Triangle) where
  -- the lengths of the four lists that are read
  unfoldable pub input_lengths_right : Bool
  input_lengths_right =
      eqb (length t.payments) (amounts_length (n t))
      && eqb (length t.adjustments) (amounts_length (n t))
      && eqb (length t.weights) (weights_length (n t))
      && eqb (length t.openings) (openings_length (Y t))

  -- these and the two answer lists, of the given lengths
  unfoldable pub lengths_right : ℕ → ℕ → Bool
  lengths_right future_room reserves_room =
      input_lengths_right && eqb future_room (future_length (n t)) && eqb reserves_room (reserves_length (n t))

  -- ---- Questions 4 to 8

  unfoldable pub question_4 : Verdict
  question_4 = each_cell (n t - 1) 4 (λ i k. weight_in_range (w t i k))

  unfoldable pub question_5 : Verdict
  question_5 =
      each_cell (n t) 5 (λ i k. amount_right (Y t) i k (S t i k))
      then each_cell (n t) 5 (λ i k. amount_right (Y t) i k (T t i k))

  unfoldable pub question_6 : Verdict
  question_6 = each_cell (n t) 6 (λ i k. outstanding_in_range (Y t) i k (R t i k))

  unfoldable pub question_7 : Verdict
  question_7 = each_cell (n t - 1) 7 (λ i k. weight_allowed (Y t) i k (w t i k))

  unfoldable pub question_8 : Verdict
  question_8 = first_to (n t - 1) (λ k. ask (lt_z (pos 0) (sums t k).D) 8 (at 0 k))

-- ---- Question 9, of any method

module _ (m : Method) where
  -- the projected years of accident year i
  unfoldable pub question_9_of_year : ℕ → Verdict
  question_9_of_year i = first_to (i - 1) (λ j. ask (figures_in_range (movement m i (year_before m i j))) 9 (at i (suc (year_before m i j))))

  unfoldable pub question_9 : Verdict
  question_9 = first_to m.years question_9_of_year

-- ---- In the order in which they are asked

module _ (t : Triangle) where
  -- 4 to 7, of the lists, each whole
  unfoldable pub list_questions : Verdict
  list_questions = question_4 t then question_5 t then question_6 t then question_7 t

  -- 1 to 7, of all that is lent; a call for a single cell lends no answer lists, so question 3 is given its answer
  unfoldable pub input_questions : Bool → Verdict
  input_questions right = question_1 t.years then question_2 t.years t.cut then question_3 right then list_questions

  -- 1 to 8, all that is asked before a year is projected
  unfoldable pub observed_questions : Bool → Verdict
  observed_questions right = input_questions right then question_8 t

  -- 1 to 9
  unfoldable pub questions : Bool → Verdict
  questions right = observed_questions right then question_9 (method t)

-- ---- Question 10, of a single cell and of a row

-- the cell is unseen, with i from 2 to n and k at most n
unfoldable pub cell_unseen : ℤ → ℤ → ℤ → Bool
cell_unseen years i k = from_to (pos 2) years i && le_z k years && lt_z (years +ℤ pos 1) (i +ℤ k)

unfoldable pub accident_year_in_range : ℤ → ℤ → Bool
accident_year_in_range years i = from_to (pos 1) years i

unfoldable pub question_10 : Bool → Verdict
question_10 right = ask right 10 nowhere
