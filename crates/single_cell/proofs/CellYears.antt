-- The years that lead to a cell: each outstanding from its year's movement, each movement from the outstanding before it.
use mathlib.Core.Path.{◌≡◌, refl, sym, ap, ◌∙◌, subst}
use mathlib.Core.Bool.{true}
use Prim.Native.Nat.{ℕ, suc, ◌+◌, ◌-◌, ◌≤◌, ◌<◌}
use native.Mathlib.Decide.{dec_le}
use native.Mathlib.Omega.{arith}
use lib.IntN.{◌*ℤ◌}
use Rattle.std.proofs.Common.{Some}
use Rattle.method.specs.Limits.{one_unit}
use Rattle.method.specs.Triangle.{entry}
use Rattle.method.specs.ProjectedYear.{next_year}
use Rattle.method.specs.RunOff.{Method, O, movement, last_observed, year_before}
use Rattle.method.specs.Questions.{figures_in_range, question_9_of_year}
use Rattle.method.proofs.FirstRefusal.{ask_accepted, first_accepted}
use Rattle.method.proofs.RunOff.{O_observed, O_projected}
use Rattle.ratios.specs.Ratios.{sums_at}
use Rattle.prepared_years.specs.declared.triangle.PreparedTriangle.{PreparedTriangle}
use Rattle.prepared_years.specs.Prepared.{ratios_of}
use Rattle.projection.specs.Year.{year_or_too_large, movement_of}
use Rattle.run_off.specs.MethodRead.{method_read}
use Rattle.run_off.proofs.ProjectedYears.{InRange, outstanding_in_range}
use Rattle.single_cell.specs.Cells.{CellYear}

module _ {t : PreparedTriangle} {i k : ℕ} (c : CellYear t i k) where
  abbrev m : Method
  m = method_read t

  pub last_observed_year : i + k ≡ t.n + 1 → entry t.outstandings i *ℤ one_unit ≡ O m i k
  last_observed_year e = sym (O_observed m i k (omega arith))

  pub later_year : (i + k ≡ t.n + 1 → ⊥) → t.n + 1 < i + k
  later_year d = go (dec_le (t.n + 2) (i + k))
    where
      go : Dec (t.n + 2 ≤ i + k) → t.n + 1 < i + k
      go (yes l) = omega arith
      go (no l) = absurd (d (omega (arith, c.from_last_observed)))

  -- the figures of its row
  passed : (j : ℕ) → 1 ≤ j → j ≤ i - 1 → figures_in_range (movement m i (year_before m i j)) ≡ true
  unfolding question_9_of_year
  passed j p q = ask_accepted _ 9 _ (first_accepted (i - 1) _ c.passed j p q)

  pub in_range : InRange (O m i k)
  in_range =
      let j : ℕ = k - last_observed m i in
      let e : last_observed m i + j ≡ k = omega (arith, c.from_last_observed) in
      subst (λ (x : ℕ). InRange (O m i x)) e
      (outstanding_in_range t c.row j (omega (arith, c.last_year, c.row.last)) (λ a p q. passed a p (omega (arith, c.last_year, c.row.last))))

  module _ (later : t.n + 1 < i + k) where
    pub year_before_it : CellYear t i (k - 1)
    year_before_it = record { row = c.row; from_last_observed = omega arith; last_year = omega (arith, c.last_year); passed = c.passed }

    pub outstanding_from_movement : O m i k ≡ (movement m i (k - 1)).outstanding
    outstanding_from_movement =
        let e : suc (k - 1) ≡ k = omega (arith, c.row.last) in
        ap (O m i) (sym e) ∙ O_projected m i (k - 1) (omega arith)

    -- the year that leads to the cell
    figures_right : figures_in_range (movement m i (k - 1)) ≡ true
    figures_right =
        let e : year_before m i (i + k - (t.n + 1)) ≡ k - 1 = omega (arith, c.row.last) in
        subst (λ (x : ℕ). figures_in_range (movement m i x) ≡ true) e (passed (i + k - (t.n + 1)) (omega arith) (omega (arith, c.last_year)))

    pub movement_found : year_or_too_large (next_year (O m i (k - 1)) (sums_at (ratios_of t.years) (k - 1))) ≡ Some (movement_of (movement m i (k - 1)))
    unfolding movement year_or_too_large
    movement_found = rw figures_right refl
