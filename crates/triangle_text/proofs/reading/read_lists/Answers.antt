-- Each list is read as its block, up to the first fault of the four.
use mathlib.Core.Path.{◌≡◌}
use mathlib.Core.Bool.{true}
use Prim.Native.Nat.{◌-◌, ◌≤◌}
use native.Mathlib.Omega.{arith}
use borrow.Author.Rules.{rules}
use lib.IntN.{nat_abs}
use lib.ListN.{length}
use mir.Syntax.{w64}
use mir.Val.{SFits}
use mir.Facts.{to_z-of_z}
use Rattle.text.specs.Lines.{lines}
use Rattle.line_kinds.specs.declared.kinds.LineKind.TheVariants.{Payments, Adjustments}
use Rattle.method.specs.Limits.{most_accident_years}
use Rattle.method.specs.Triangle.{amounts_length, weights_length}
use Rattle.method.proofs.QuestionFacts.{YearsInRange, CutInRange}
use Rattle.verdicts.proofs.Counts.{count_fits}
use Rattle.row_text.specs.Rows.{ReadAs}
use Rattle.row_text.proofs.ReadLists.{right_is, right_within, wrong_is}
use Rattle.triangle_text.specs.Reading.{triangle_under, weights_under, openings_under, lists_wanted, lists_in}
use Rattle.triangle_text.specs.declared.reading.Asked.{Asked}
use Rattle.triangle_text.proofs.ListsRead.{wanted, counted_fits, amounts_fit, text_wrong, all_read}
use Rattle.triangle_text.proofs.reading.read_lists.Goals as goal
use Rattle.triangle_text.proofs.reading.read_lists.Goals.{After-read_triangle, After-read_triangle-2, After-read_weights, After-read_openings}

-- ---- The number of accident years and the cut are small

module _ (asked : Asked) (accepted : lists_wanted asked.years asked.cut ≡ true) where
  years : YearsInRange asked.years
  years = (wanted asked.years asked.cut accepted).0

  cut : CutInRange asked.cut (nat_abs asked.years)
  cut = (wanted asked.years asked.cut accepted).1

  cut_few : nat_abs asked.cut ≤ most_accident_years
  cut_few = omega (arith, cut.most, years.most)

  years_fit : SFits w64 asked.years
  years_fit = counted_fits asked.years years.counted years.most

  cut_fits : SFits w64 asked.cut
  cut_fits = counted_fits asked.cut cut.counted cut_few

pub overflow_cast-n : goal.overflow_cast-n
overflow_cast-n c =
    let asked = c.args.asked in
    let counted = years asked c.requires in
    simp (to_z-of_z (years_fit asked c.requires)) (count_fits asked.years counted.counted counted.most)

pub overflow_cast-cut : goal.overflow_cast-cut
overflow_cast-cut c =
    let asked = c.args.asked in
    simp (to_z-of_z (cut_fits asked c.requires)) (count_fits asked.cut (cut asked c.requires).counted (cut_few asked c.requires))

pub read_triangle-requires : goal.read_triangle-requires
read_triangle-requires c =
    let asked = c.args.asked in
    let most = (years asked c.requires).most in
    simp (to_z-of_z (years_fit asked c.requires)) (most, omega (arith, amounts_fit (nat_abs asked.years) most_accident_years most))

pub read_triangle-requires-2 : goal.read_triangle-requires-2
read_triangle-requires-2 c =
    let asked = c.args.asked in
    let most = (years asked c.requires).most in
    simp (to_z-of_z (years_fit asked c.requires)) (most, omega (arith, amounts_fit (nat_abs asked.years) most_accident_years most))

pub overflow_sub-n : goal.overflow_sub-n
overflow_sub-n c =
    let asked = c.args.asked in
    simp (to_z-of_z (years_fit asked c.requires)) (omega (arith, (years asked c.requires).fewest))

pub read_weights-requires : goal.read_weights-requires
read_weights-requires c =
    let asked = c.args.asked in
    let most = (years asked c.requires).most in
    let fewer : nat_abs asked.years - 1 ≤ 31 = omega arith in
    simp (to_z-of_z (years_fit asked c.requires)) (omega arith, omega (arith, amounts_fit (nat_abs asked.years - 1) 31 fewer))

-- ---- The four blocks, of lists that have their room, as their arrays say

payments_read : (c : After-read_triangle) → let a = c.args in
    ReadAs (triangle_under a.short.text.separator (lines a.short.text.bytes.now) Payments (nat_abs a.asked.years) (nat_abs a.asked.cut) (amounts_length most_accident_years))
    c.read_triangle.result c.read_triangle.new.list
payments_read c =
    let asked = c.args.asked in
    let long : length c.args.payments.now ≡ amounts_length most_accident_years = omega arith in
    simp (to_z-of_z (years_fit asked c.requires), to_z-of_z (cut_fits asked c.requires), long) at c.read_triangle.ensures

adjustments_read : (c : After-read_triangle-2) → let a = c.args in
    ReadAs (triangle_under a.short.text.separator (lines a.short.text.bytes.now) Adjustments (nat_abs a.asked.years) (nat_abs a.asked.cut) (amounts_length most_accident_years))
    c.read_triangle-2.result c.read_triangle-2.new.list
adjustments_read c =
    let asked = c.args.asked in
    let long : length c.args.adjustments.now ≡ amounts_length most_accident_years = omega arith in
    simp (to_z-of_z (years_fit asked c.requires), to_z-of_z (cut_fits asked c.requires), long) at c.read_triangle-2.ensures

weights_read : (c : After-read_weights) → let a = c.args in
    ReadAs (weights_under a.short.text.separator (lines a.short.text.bytes.now) (nat_abs a.asked.years - 1) (nat_abs a.asked.cut) (weights_length most_accident_years))
    c.read_weights.result c.read_weights.new.list
weights_read c =
    let asked = c.args.asked in
    let long : length c.args.weights.now ≡ weights_length most_accident_years = omega arith in
    simp (to_z-of_z (years_fit asked c.requires), to_z-of_z (cut_fits asked c.requires), long) at c.read_weights.ensures

openings_read : (c : After-read_openings) → let a = c.args in
    ReadAs (openings_under a.short.text.separator (lines a.short.text.bytes.now) most_accident_years) c.read_openings.result c.read_openings.new.list
openings_read c =
    let long : length c.args.openings.now ≡ most_accident_years = omega arith in
    rw long at c.read_openings.ensures

-- ---- The first fault

pub returns-in_err-payments : goal.returns-in_err-payments
unfolding lists_in
returns-in_err-payments c =
    let wrong = wrong_is _ (payments_read (goal.at.returns-in_err-payments c).After-read_triangle) c.in_err-payments.was in
    text_wrong {fault = c.in_err-payments.field-0.0} (rw wrong) (search rules)

pub returns-in_err-adjustments : goal.returns-in_err-adjustments
unfolding lists_in
returns-in_err-adjustments c =
    let payments = right_is _ (payments_read (goal.at.returns-in_err-adjustments c).After-read_triangle) c.in_ok-payments.was in
    let wrong = wrong_is _ (adjustments_read (goal.at.returns-in_err-adjustments c).After-read_triangle-2) c.in_err-adjustments.was in
    text_wrong {fault = c.in_err-adjustments.field-0.0} (rw (payments, wrong)) (search rules)

pub returns-in_err-weights : goal.returns-in_err-weights
unfolding lists_in
returns-in_err-weights c =
    let payments = right_is _ (payments_read (goal.at.returns-in_err-weights c).After-read_triangle) c.in_ok-payments.was in
    let adjustments = right_is _ (adjustments_read (goal.at.returns-in_err-weights c).After-read_triangle-2) c.in_ok-adjustments.was in
    let wrong = wrong_is _ (weights_read (goal.at.returns-in_err-weights c).After-read_weights) c.in_err-weights.was in
    text_wrong {fault = c.in_err-weights.field-0.0} (rw (payments, adjustments, wrong)) (search rules)

pub returns-in_err-openings : goal.returns-in_err-openings
unfolding lists_in
returns-in_err-openings c =
    let payments = right_is _ (payments_read (goal.at.returns-in_err-openings c).After-read_triangle) c.in_ok-payments.was in
    let adjustments = right_is _ (adjustments_read (goal.at.returns-in_err-openings c).After-read_triangle-2) c.in_ok-adjustments.was in
    let weights = right_is _ (weights_read (goal.at.returns-in_err-openings c).After-read_weights) c.in_ok-weights.was in
    let wrong = wrong_is _ (openings_read (goal.at.returns-in_err-openings c).After-read_openings) c.in_err-openings.was in
    text_wrong {fault = c.in_err-openings.field-0.0} (rw (payments, adjustments, weights, wrong)) (search rules)

pub returns : goal.returns
unfolding lists_in
returns c =
    let payments = payments_read (goal.at.returns c).After-read_triangle in
    let adjustments = adjustments_read (goal.at.returns c).After-read_triangle-2 in
    let weights = weights_read (goal.at.returns c).After-read_weights in
    let openings = openings_read (goal.at.returns c).After-read_openings in
    all_read c.args.asked _ _ _ _
    (right_is _ payments c.in_ok-payments.was) (right_is _ adjustments c.in_ok-adjustments.was) (right_is _ weights c.in_ok-weights.was) (right_is _ openings c.in_ok-openings.was)
    (right_within _ payments c.in_ok-payments.was) (right_within _ adjustments c.in_ok-adjustments.was) (right_within _ weights c.in_ok-weights.was) (right_within _ openings c.in_ok-openings.was)
