-- An accident year of what was read, projected year by year: its state after each year is the meaning's.
use mathlib.Core.Path.{◌≡◌, refl, sym, ap, ap₂, ◌∙◌, subst}
use mathlib.Core.Bool.{true}
use mathlib.Core.List.{List, [], ◌++◌}
use Rattle.std.proofs.Common.{Option, Some, None}
use Prim.Native.Nat.{ℕ, zero, suc, ◌+◌, ◌*◌, ◌-◌, ◌≤◌, ◌<◌}
use native.Mathlib.Nat.{add-zero}
use native.Mathlib.Numerals.{add-one}
use native.Mathlib.Omega.{arith}
use lib.IntN.{ℤ, pos, ◌+ℤ◌, nat_abs, +ℤ_idr}
use lib.ListN.{get_or, get_or-append}
use lib.Signed.{◌≤ℤ◌, le_z_yes}
use Rattle.integers.proofs.RingSolver.{con, ◌:+◌, ◌:*◌, ◌:=◌, ring}
use Rattle.integers.proofs.LinearFacts.{integers, ≤ℤ-by}
use Rattle.integers.proofs.Order.{*ℤ-nonneg, nat_abs_in_range, nat_abs-+ℤ, nat_abs-≤}
use Rattle.method.specs.Limits.{one_unit, greatest_figure, most_accident_years}
use Rattle.method.specs.Counting.{up_to, sum_to}
use Rattle.method.specs.Triangle.{entry}
use Rattle.method.specs.ProjectedYear as meaning
use Rattle.method.specs.ProjectedYear.{figures, next_year}
use Rattle.method.specs.RunOff.{Method, O, movement, last_observed, first_outstanding, year_before, figures_to, payments_to, adjustments_to}
use Rattle.method.specs.AnswerPlaces.{AccidentYear}
use Rattle.method.specs.Verdicts.{Verdict, at, ask}
use Rattle.method.specs.Questions.{figures_in_range}
use Rattle.method.proofs.Counting.{up_to_none}
use Rattle.method.proofs.Lists.{years_length}
use Rattle.method.proofs.Sums.{sum_none, sum_more, sum_nat_abs}
use Rattle.method.proofs.FirstRefusal.{ask_yes, ask_accepted, first_accepted, PassedSoFar, none_asked, next_accepted}
use Rattle.method.proofs.QuestionFacts.{FiguresInRange, figures_in_range_true}
use Rattle.method.proofs.Projection.{next_nonneg}
use Rattle.method.proofs.RunOff.{O_observed, O_projected}
use Rattle.share.specs.declared.millionths.Millionths.{Millionths}
use Rattle.prepared_ratios.specs.Ratio.{greatest_size}
use Rattle.ratios.specs.Ratios.{sums_at, sums_of}
use Rattle.prepared_years.specs.declared.year.PreparedYear.{PreparedYear}
use Rattle.prepared_years.specs.declared.triangle.PreparedTriangle.{PreparedTriangle}
use Rattle.prepared_years.specs.Prepared.{year_sums, ratios_of}
use Rattle.prepared_years.proofs.PreparedYears.{sums_at_place, sums_in_range}
use Rattle.projection.specs.declared.Movement.{Movement}
use Rattle.projection.specs.Year.{OutstandingInLimit, year_or_too_large, movement_of}
use Rattle.projection.proofs.Years.{within_is, within_small}
use Rattle.row_states.specs.declared.RowState.{RowState}
use Rattle.row_states.specs.States.{state_before, first_of, with_year, YearAddable, YearToProject}
use Rattle.row_states.proofs.States.{millionths, same_state}
use Rattle.run_off.specs.MethodRead.{method_read}
use Rattle.run_off.specs.Rows.{row_state}

-- ---- The state after j projected years

module _ (m : Method) (i : ℕ) where
  abbrev year_question : ℕ → Verdict
  year_question j = ask (figures_in_range (movement m i (year_before m i j))) 9 (at i (suc (year_before m i j)))

  -- the years that are behind passed question 9
  pub record RowSoFar (j : ℕ) (s : RowState) : Type 0 where
    pub asked : PassedSoFar (i - 1) year_question j
    pub state_is : s ≡ row_state m i j

  -- the first payment is kept
  first_kept : (j : ℕ) (first : Millionths) → first.0 ≡ entry (figures_to m i j) 1
      → first_of j (movement_of (movement m i (year_before m i (suc j)))).payment first ≡ record { 0 = entry (figures_to m i (suc j)) 1 }
  unfolding figures entry up_to
  first_kept zero first e = refl
  first_kept (suc j) first e = millionths (e ∙ sym (get_or-append (figures_to m i (suc j)) (figures (movement m i (year_before m i (suc (suc j))))) (pos 0) 0 (omega (arith, years_length m i (suc j)))))

  pub no_year : i ≤ m.years → RowSoFar 0 (state_before (m.observed i (last_observed m i)))
  unfolding row_state entry
  no_year h = record {
    asked = none_asked _ _;
    state_is = same_state
        (millionths (sym (ap (O m i) (add-zero (last_observed m i)) ∙ O_observed m i (last_observed m i) (omega arith))))
        (millionths (sym (sum_none _)))
        (millionths (sym (ap (λ (x : ℤ). first_outstanding m i +ℤ x) (sum_none _) ∙ +ℤ_idr (first_outstanding m i))))
        (millionths (sym (ap (λ (xs : List ℤ). entry xs 1) (up_to_none ◌++◌ [] _))));
  }

  -- one year more
  year_more : (j : ℕ) → j + 1 < i → i ≤ m.years → with_year (row_state m i j) (movement_of (movement m i (year_before m i (j + 1)))) ≡ row_state m i (j + 1)
  unfolding row_state
  year_more j h l = rw (add-one j) (same_state
      (millionths (sym (O_projected m i (year_before m i (suc j)) (omega arith)) ∙ ap (O m i) (next_year_is j h l)))
      (millionths (sym (sum_more j _)))
      (millionths (ring 3 (λ a b c. a :+ b :+ c := a :+ (b :+ c)) tt (first_outstanding m i) _ _ ∙ ap (λ (x : ℤ). first_outstanding m i +ℤ x) (sym (sum_more j _))))
      (first_kept j _ refl))
    where
      next_year_is : (j : ℕ) → j + 1 < i → i ≤ m.years → suc (year_before m i (suc j)) ≡ last_observed m i + suc j
      next_year_is j h l = omega arith

-- ---- Within the limits

abbrev pub InRange : ℤ → Type 0
InRange x = (pos 0 ≤ℤ x) × (x ≤ℤ greatest_figure)

module _ (t : PreparedTriangle) {i : ℕ} (y : AccidentYear t.n i) where
  abbrev m : Method
  m = method_read t

  first_in_range : InRange (first_outstanding m i)
  first_in_range =
      let units = entry t.outstandings i in
      let h = t.outstandings_in_range i y.first y.last in (
        *ℤ-nonneg units one_unit h.0 (le_z_yes tt),
        ≤ℤ-by (con units :* con one_unit) (con greatest_figure) (omega (arith, integers, h.0, h.1)),
      )

  -- an outstanding after years that passed question 9
  pub outstanding_in_range : (j : ℕ) → j ≤ i - 1 → ((a : ℕ) → 1 ≤ a → a ≤ j → figures_in_range (movement m i (year_before m i a)) ≡ true)
      → InRange (O m i (last_observed m i + j))
  unfolding movement
  outstanding_in_range zero h f =
      subst InRange (sym (ap (O m i) (add-zero (last_observed m i)) ∙ O_observed m i (last_observed m i) (omega (arith, y.last)))) first_in_range
  outstanding_in_range (suc j) h f =
      let k : ℕ = year_before m i (suc j) in
      let e : suc k ≡ last_observed m i + suc j = omega (arith, y.last) in
      let b : last_observed m i + j ≡ k = omega (arith, y.last) in
      let s = sums_in_range t k (omega arith) (omega (arith, y.last)) in
      let before = subst (λ (x : ℕ). InRange (O m i x)) b (outstanding_in_range j (omega arith) (λ a p q. f a p (omega arith))) in
      let small = (figures_in_range_true _ (f (suc j) (omega arith) (omega arith))).outstanding in
      subst (λ (x : ℕ). InRange (O m i x)) e (subst InRange (sym (O_projected m i k (omega arith))) (
        next_nonneg (O m i k) (sums_at (ratios_of t.years) k) s.D_positive before.0 s.factor_nonneg,
        ((nat_abs-≤ _ greatest_size).0 (omega (arith, integers, small))).1,
      ))

  module _ {j : ℕ} {s : RowState} (r : RowSoFar m i j s) where
    pub projected_is : s.projected ≡ j
    unfolding row_state
    projected_is = ap (λ (x : RowState). x.projected) r.state_is

    -- the figures of the years behind
    passed : (a : ℕ) → 1 ≤ a → a ≤ j → figures_in_range (movement m i (year_before m i a)) ≡ true
    passed a p q = ask_accepted _ 9 _ (first_accepted j (year_question m i) r.asked.passed a p q)

    outstanding_is : s.outstanding.0 ≡ O m i (last_observed m i + j)
    unfolding row_state
    outstanding_is = ap (λ (x : RowState). x.outstanding.0) r.state_is

    -- a sum of one figure of each year behind
    sum_size : (f : meaning.Movement → ℤ) → ((x : meaning.Movement) → FiguresInRange x → nat_abs (f x) ≤ greatest_size)
        → nat_abs (sum_to j (λ a. f (movement m i (year_before m i a)))) ≤ j * greatest_size
    sum_size f h = sum_nat_abs j greatest_size _ (λ a p q. h _ (figures_in_range_true _ (passed a p q)))

    module _ (more : j + 1 < i) where
      few : j + 2 ≤ most_accident_years
      few = omega (arith, y.last, t.most)

      paid_size : nat_abs s.paid.0 ≤ most_accident_years * greatest_size
      unfolding row_state
      paid_size =
          let e : s.paid.0 ≡ payments_to m i j = ap (λ (x : RowState). x.paid.0) r.state_is in
          subst (λ (x : ℤ). nat_abs x ≤ most_accident_years * greatest_size) (sym e)
          (omega (arith, few, sum_size (λ x. x.payment) (λ x f. omega (arith, integers, f.payment))))

      incurred_size : nat_abs s.incurred.0 ≤ most_accident_years * greatest_size
      unfolding row_state
      incurred_size =
          let e : s.incurred.0 ≡ first_outstanding m i +ℤ adjustments_to m i j = ap (λ (x : RowState). x.incurred.0) r.state_is in
          subst (λ (x : ℤ). nat_abs x ≤ most_accident_years * greatest_size) (sym e)
          (omega (
            arith,
            few,
            nat_abs-+ℤ (first_outstanding m i) (adjustments_to m i j),
            nat_abs_in_range (first_outstanding m i) first_in_range,
            sum_size (λ x. x.adjustment) (λ x f. omega (arith, integers, f.adjustment)),
          ))

      pub year_to_project : YearToProject t.n i s
      year_to_project = record { last = y.last; most = t.most; more = omega (arith, projected_is) }

      pub outstanding_in_limit : OutstandingInLimit s.outstanding.0
      outstanding_in_limit = record {
        nonneg = subst (λ (x : ℤ). pos 0 ≤ℤ x) (sym outstanding_is) here.0;
        most = subst (λ (x : ℤ). x ≤ℤ greatest_figure) (sym outstanding_is) here.1;
      }
        where
          here : InRange (O m i (last_observed m i + j))
          here = outstanding_in_range j (omega arith) passed

      -- the year at hand
      year_is : next_year s.outstanding.0 (sums_at (ratios_of t.years) (t.n - i + (s.projected + 1))) ≡ movement m i (year_before m i (j + 1))
      unfolding movement
      year_is =
          let e : last_observed m i + j ≡ t.n - i + (j + 1) = omega (arith, y.last) in
          ap (λ (x : ℕ). next_year s.outstanding.0 (sums_at (ratios_of t.years) (t.n - i + (x + 1)))) projected_is
          ∙ ap (λ (x : ℤ). next_year x (sums_at (ratios_of t.years) (t.n - i + (j + 1)))) (outstanding_is ∙ ap (O m i) e)

      -- what is answered of the year at its place
      module _ (none : PreparedYear) {place : ℕ} {answer : Option Movement} (at : place ≡ t.n - i + s.projected)
          (is : answer ≡ year_or_too_large (next_year s.outstanding.0 (sums_of (year_sums (get_or t.years place none))))) where
        answered : answer ≡ year_or_too_large (next_year s.outstanding.0 (sums_at (ratios_of t.years) (t.n - i + (s.projected + 1))))
        answered =
            is ∙ ap (λ x. year_or_too_large (next_year s.outstanding.0 x))
            (sym (sums_at_place t.years place (t.n - i + (s.projected + 1)) none (omega (arith, at, y.last, t.most, projected_is, t.years_long)) (omega (arith, at))))

        pub too_large : answer ≡ None → None ≡ year_or_too_large (movement m i (year_before m i (j + 1)))
        too_large told = sym told ∙ answered ∙ ap year_or_too_large year_is

        module _ {x : Movement} (told : answer ≡ Some x) where
          within : Some x ≡ year_or_too_large (next_year s.outstanding.0 (sums_at (ratios_of t.years) (t.n - i + (s.projected + 1))))
          within = sym told ∙ answered

          in_limits : figures_in_range (movement m i (year_before m i (j + 1))) ≡ true
          in_limits = ap figures_in_range (sym year_is) ∙ (within_is _ x within).1

          pub movement_is : x ≡ movement_of (movement m i (year_before m i (j + 1)))
          movement_is = (within_is _ x within).0 ∙ ap movement_of year_is

          pub year_addable : YearAddable s x
          year_addable = record {
            projected = omega (arith, few, projected_is);
            paid = record { sum_size = paid_size; figure_size = (within_small _ x within).payment };
            incurred = record { sum_size = incurred_size; figure_size = (within_small _ x within).adjustment };
          }

          pub one_year_more : RowSoFar m i (j + 1) (with_year s x)
          one_year_more = record {
            asked = next_accepted r.asked (omega arith) (ask_yes _ 9 _ in_limits);
            state_is = ap₂ with_year r.state_is movement_is ∙ year_more m i j more y.last;
          }
