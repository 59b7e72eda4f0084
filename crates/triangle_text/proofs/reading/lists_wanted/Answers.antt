-- The years first, so that one less fits in 64 bits.
use mathlib.Core.Path.{◌≡◌, sym, ◌∙◌}
use mathlib.Core.Bool.{true, false}
use native.Mathlib.Omega.{arith}
use lib.IntN.{ℤ, pos, ◌-ℤ◌}
use mir.Syntax.{w64}
use mir.Val.{SFits}
use mir.Facts.{to_z-of_z}
use Rattle.integers.proofs.RingSolver.{con, ◌:-◌}
use Rattle.integers.proofs.LinearFacts.{integers, fits_by}
use Rattle.method.specs.Limits.{fewest_years, most_years}
use Rattle.method.specs.Tests.{from_to}
use Rattle.method.specs.Tests.{years_in_range, cut_in_range}
use Rattle.method.proofs.Tests.{from_to_true}
use Rattle.triangle_text.specs.Reading.{lists_wanted}
use Rattle.triangle_text.proofs.reading.lists_wanted.Goals as goal
use Rattle.triangle_text.proofs.reading.lists_wanted.Goals.{After-from_to}

one_less_fits : (years : ℤ) → from_to fewest_years most_years years ≡ true → SFits w64 (years -ℤ pos 1)
one_less_fits years e =
    let h = from_to_true fewest_years most_years years e in
    fits_by w64 (con years :- con (pos 1)) (omega (arith, integers, h.0, h.1))

by_cut : (years cut : ℤ) → from_to fewest_years most_years years ≡ true → from_to (pos 1) (years -ℤ pos 1) cut ≡ lists_wanted years cut
unfolding lists_wanted years_in_range cut_in_range
by_cut years cut e = rw e

not_wanted : (years cut : ℤ) → from_to fewest_years most_years years ≡ false → false ≡ lists_wanted years cut
unfolding lists_wanted years_in_range
not_wanted years cut e = rw e

tested : (c : After-from_to) → from_to fewest_years most_years c.args.years ≡ c.from_to.result
tested c = sym (simp (to_z-of_z c.ranges.years) at c.from_to.ensures)

pub overflow_sub-years : goal.overflow_sub-years
overflow_sub-years c =
    simp (to_z-of_z c.ranges.years) (one_less_fits c.args.years (tested (goal.at.overflow_sub-years c).After-from_to ∙ c.if-from_to.true))

pub returns-then-from_to : goal.returns-then-from_to
returns-then-from_to c =
    let e = tested (goal.at.returns-then-from_to c).After-from_to ∙ c.if-from_to.true in
    (simp (to_z-of_z c.ranges.years, to_z-of_z c.ranges.cut, to_z-of_z (one_less_fits c.args.years e)) at c.from_to-then-from_to.ensures)
    ∙ by_cut c.args.years c.args.cut e

pub returns-else-from_to : goal.returns-else-from_to
returns-else-from_to c =
    c.if-from_to.false
    ∙ not_wanted c.args.years c.args.cut (tested (goal.at.returns-else-from_to c).After-from_to ∙ c.if-from_to.false)
