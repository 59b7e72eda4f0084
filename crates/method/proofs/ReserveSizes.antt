-- How large a reserve can be, for any n, where questions 1 to 9 accept: 31 projected figures and an outstanding at most, so that it is one of 64 bits.
use mathlib.Core.Path.{sym, subst}
use Prim.Native.Nat.{ℕ, zero, suc, ◌*◌, ◌-◌, ◌≤◌, ◌<◌}
use native.Mathlib.Nat.{le_trans}
use native.Mathlib.Omega.{arith}
use lib.IntN.{ℤ, pos, nat_abs}
use lib.ListN.{length, get_or}
use Rattle.integers.proofs.RingSolver.{con, ◌:-◌}
use Rattle.integers.proofs.LinearFacts.{integers}
use Rattle.integers.proofs.Order.{nat_abs_by, nat_abs_parts, nat_abs_in_range, nat_abs-+ℤ, nat_abs-*ℤ-≤}
use Rattle.method.specs.Limits.{most_accident_years, greatest_outstanding, one_unit, greatest_figure}
use Rattle.method.specs.Counting.{sum_to}
use Rattle.method.specs.Triangle.{Triangle, n}
use Rattle.method.specs.Outstandings.{R}
use Rattle.method.specs.ProjectedYear.{Movement}
use Rattle.method.specs.RunOff.{Method, movement, last_observed, first_outstanding, year_before, adjustments_to, paid_reserve, incurred_reserve, closing, reserves_row, reserves, method}
use Rattle.method.specs.AnswerPlaces.{AccidentYear, year_figure}
use Rattle.method.proofs.QuestionFacts.{FiguresInRange, Accepted}
use Rattle.method.proofs.Lists.{reserves_has_length, reserves_hold, ReservesPlace, every_reserves_place}
use Rattle.method.proofs.Sums.{sum_nat_abs}
use Rattle.method.proofs.RunOff.{incurred_less_paid_is_closing}
use Rattle.method.proofs.Projection.{method_keeps}

module _ (t : Triangle) (a : Accepted t) where
  abbrev m : Method
  m = method t

  abbrev most : ℕ
  most = nat_abs greatest_figure

  module _ (i : ℕ) (y : AccidentYear (n t) i) where
    few : i ≤ most_accident_years
    few = omega (arith, y.last, a.observed.years.most)

    -- one figure of each projected year
    figures_size : (f : Movement → ℤ) → ((x : Movement) → FiguresInRange x → nat_abs (f x) ≤ most)
        → nat_abs (sum_to (i - 1) (λ j. f (movement m i (year_before m i j)))) ≤ (i - 1) * most
    figures_size f h =
        sum_nat_abs (i - 1) most _
        (λ j p q. h _ (a.figures i (year_before m i j) (record { row = y.last; after = omega (arith, y.last); year = omega (arith, y.last) })))

    paid_size : nat_abs (paid_reserve m i) ≤ 31 * most
    unfolding paid_reserve
    paid_size = omega (arith, few, figures_size (λ x. x.payment) (λ x f. omega (arith, integers, f.payment)))

    first_size : nat_abs (first_outstanding m i) ≤ most
    first_size =
        let seen = a.observed.outstanding i (last_observed m i) y.first (omega (arith, y.last)) (omega (arith, y.last)) (omega (arith, y.last, a.observed.cut.most)) in
        le_trans (nat_abs-*ℤ-≤ (R t i (last_observed m i)) one_unit (nat_abs greatest_outstanding) (nat_abs one_unit) (nat_abs_in_range _ seen) (omega arith)) (omega arith)

    incurred_size : nat_abs (incurred_reserve m i) ≤ 32 * most
    unfolding incurred_reserve
    incurred_size = omega (
      arith,
      few,
      nat_abs-+ℤ (first_outstanding m i) (adjustments_to m i (i - 1)),
      first_size,
      figures_size (λ x. x.adjustment) (λ x f. omega (arith, integers, f.adjustment)),
    )

    closing_size : nat_abs (closing m i) ≤ 63 * most
    closing_size =
        subst (λ (x : ℤ). nat_abs x ≤ 63 * most) (incurred_less_paid_is_closing m (method_keeps t a).moves i y.first y.last)
        (nat_abs_by (con (incurred_reserve m i) :- con (paid_reserve m i)) (63 * most)
        (omega (arith, paid_size, incurred_size, nat_abs_parts (paid_reserve m i), nat_abs_parts (incurred_reserve m i))))

    three_sizes : (which : ℕ) → which < 3 → nat_abs (get_or (reserves_row m i) which (pos 0)) ≤ 63 * most
    unfolding reserves_row
    three_sizes zero h = omega (arith, paid_size)
    three_sizes (suc zero) h = omega (arith, incurred_size)
    three_sizes (suc (suc zero)) h = closing_size
    three_sizes (suc (suc (suc x))) h = absurd (omega arith)

  -- of every number of the reserve list
  pub reserve_size : (j : ℕ) → j < length (reserves m) → nat_abs (get_or (reserves m) j (pos 0)) ≤ 63 * nat_abs greatest_figure
  unfolding year_figure
  reserve_size j h =
      let p : ReservesPlace (n t) j = every_reserves_place (n t) j (omega (arith, reserves_has_length m)) in
      subst (λ (x : ℕ). nat_abs (get_or (reserves m) x (pos 0)) ≤ 63 * most) p.stands_there
      (subst (λ (x : ℤ). nat_abs x ≤ 63 * most) (sym (reserves_hold m p.which p.i p.one_of_three p.year))
      (three_sizes p.i p.year p.which p.one_of_three))
