-- The tables of examples, each by one computation of the definitions.
use mathlib.Core.Path.{◌≡◌, refl}
use Prim.Native.Nat.{ℕ}
use lib.Dec.{T as IsTrue}
use lib.IntN.{pos, ◌*ℤ◌}
use lib.Signed.{lt_z, lt_z_yes}
use Rattle.integers.specs.Fraction.{Fraction, ◌⊕◌, ◌⊖◌, ◌⊗◌, ◌≈◌}
use Rattle.integers.specs.HalfUp.{floor, half_up}
use Rattle.method.specs.Counting.{up_to}
use Rattle.method.specs.Triangle.{Triangle, cells_before, cell, entry}
use Rattle.method.specs.Outstandings.{R, sums}
use Rattle.method.specs.ProjectedYear.{figures, share, next_year, unrounded_year, allowed_year}
use Rattle.method.specs.RunOff.{account, O, U, A, movement, unrounded_movement, allowance, future_row, future, paid_reserve, incurred_reserve, closing, reserves_row, reserves, unrounded_paid, unrounded_incurred, paid_allowance, incurred_allowance, method}
use Rattle.method.specs.Verdicts.{number, place, ◌then◌, ask, first_to, each_in_row, each_cell}
use Rattle.method.specs.Tests.{years_in_range, cut_in_range, weight_in_range, zero_where_missing, amount_right, known, outstanding_in_range, weight_allowed, figure_in_range}
use Rattle.method.specs.Questions.{figures_in_range, input_lengths_right, lengths_right, question_1, question_2, question_3, question_4, question_5, question_6, question_7, question_8, question_9_of_year, question_9, list_questions, input_questions, observed_questions, questions, cell_unseen, accident_year_in_range, question_10}
use Rattle.method.specs.Answers.{Answer, filled, answer, cell_verdict, cell_figures, single_cell, both_lengths_right, row_verdict, named_list, row_of, row}
use Rattle.method.specs.Examples.{Hold, E1_to_E12, E2UsesItsAllowances, E5Allowances}
use Rattle.method.specs.OtherReadings.{X13_to_X84, X54Unrounded, X54Allowances}
use Rattle.method.specs.CellAndRowExamples.{CellsHold, cell_examples, RowsHold, row_examples}

-- the answer, with every definition on the way open
unfoldable pub computed : Triangle → ℕ → ℕ → Answer
unfolding floor half_up up_to cells_before cell entry R sums share next_year figures account O movement future_row future paid_reserve incurred_reserve closing reserves_row reserves ◌then◌ ask first_to each_in_row each_cell years_in_range figures_in_range cut_in_range input_lengths_right lengths_right weight_in_range zero_where_missing amount_right known outstanding_in_range weight_allowed figure_in_range question_1 question_2 question_3 question_4 question_5 question_6 question_7 question_8 question_9_of_year question_9 list_questions input_questions observed_questions questions filled answer number place
computed t future_room reserves_room = answer t future_room reserves_room

-- the same for an allowance and an unrounded outstanding
allowed : Triangle → ℕ → ℕ → Fraction
unfolding computed unrounded_year allowed_year U A unrounded_movement allowance unrounded_paid unrounded_incurred paid_allowance incurred_allowance ◌⊕◌ ◌⊖◌ ◌⊗◌
allowed t i k = A (method t) i k

-- two fractions whose parts compute
by_computing : {f g : Fraction} → IsTrue (lt_z (pos 0) f.denominator) → IsTrue (lt_z (pos 0) g.denominator)
    → f.numerator *ℤ g.denominator ≡ g.numerator *ℤ f.denominator → f ≈ g
by_computing p q e = record { left_positive = lt_z_yes p; right_positive = lt_z_yes q; across = e }

pub E1_to_E12_hold : Hold E1_to_E12
unfolding computed
E1_to_E12_hold = refl

pub X13_to_X84_hold : Hold X13_to_X84
unfolding computed
X13_to_X84_hold = refl

pub E2_uses_them : E2UsesItsAllowances
unfolding allowed
E2_uses_them = (refl, refl)

pub E5_allowances_hold : E5Allowances
unfolding allowed
E5_allowances_hold = (by_computing tt tt refl, by_computing tt tt refl, by_computing tt tt refl)

pub X54_unrounded_holds : X54Unrounded
unfolding allowed
X54_unrounded_holds = (by_computing tt tt refl, by_computing tt tt refl, by_computing tt tt refl)

pub X54_allowances_hold : X54Allowances
unfolding allowed
X54_allowances_hold = (by_computing tt tt refl, by_computing tt tt refl, by_computing tt tt refl)

pub cell_examples_hold : CellsHold cell_examples
unfolding computed cell_unseen question_10 cell_verdict cell_figures single_cell
cell_examples_hold = refl

pub row_examples_hold : RowsHold row_examples
unfolding computed accident_year_in_range question_10 both_lengths_right row_verdict named_list row_of row
row_examples_hold = refl
