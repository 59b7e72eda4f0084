-- A walk through the development years. What is shown holds for every cut, since no sum needs it;
-- that everything fits is known for the cut with which the triangle was asked.
use Rattle.std.proofs.Common.{rules, true, ℤ, arith}
use Rattle.method.specs.Triangle.{Triangle}
use Rattle.method.proofs.QuestionFacts.{Observed, observed_triangle, says_input_lengths}
use Rattle.integers.proofs.MachineArithmetic.{Held}
use Rattle.verdicts.proofs.Counts.{count_fits}
use Rattle.lent.specs.Triangles.{triangle_of}
use Rattle.ratios.specs.Ratios.{with_cut}
use Rattle.ratios.proofs.AllRatios.{first_year, year_input, no_year_made, one_more_year, all_years_made}
use Rattle.ratios.proofs.development_of.Goals as goal
use Rattle.ratios.proofs.development_of.Goals.{Start}

-- the triangle that is read, with a cut
abbrev triangle : Start → ℤ → Triangle
triangle s cut = with_cut (triangle_of s.args.triangle) cut

-- what questions 1 to 7 leave of it, with the cut that they were asked with
observed : (s : Start) → Observed (triangle s s.requires.cut)
observed s = observed_triangle (triangle s s.requires.cut) true (λ _. (says_input_lengths (triangle s s.requires.cut)).sound s.requires.inputs_right) s.requires.passed

-- its number of years is one of 64 bits
years_held : (s : Start) → Held s.args.triangle.years
years_held s = search rules

pub overflow_cast-n : goal.overflow_cast-n
overflow_cast-n c =
    let here = (goal.at.overflow_cast-n c).Start in
    let years = (observed here).years in
    simp (years_held here) (count_fits c.args.triangle.years years.counted years.most)

pub first_outstandings-outstandings-requires : goal.first_outstandings-outstandings-requires
first_outstandings-outstandings-requires c =
    let here = (goal.at.first_outstandings-outstandings-requires c).Start in
    simp (years_held here) (first_year _ (observed here))

pub loop-k-init : goal.loop-k-init
loop-k-init c =
    let here = (goal.at.loop-k-init c).Start in
    λ cut. no_year_made (triangle here cut) _ (omega (arith, (observed here).years.fewest)) (simp (years_held here) at c.first_outstandings-outstandings.ensures)

pub development_year-requires : goal.development_year-requires
development_year-requires c =
    let here = (goal.at.development_year-requires c).Start in
    let y = c.loop-k.invariant c.requires.cut in
    simp (years_held here)
    (year_input (triangle here c.requires.cut) (observed here) _ _ y.first (simp (years_held here) at c.loop-k-test.true) y.outstandings_long y.at_hand)

pub offset_bounds-ratios-k : goal.offset_bounds-ratios-k
offset_bounds-ratios-k c =
    let here = (goal.at.offset_bounds-ratios-k c).Start in
    let m = (observed here).years.most in
    let l = simp (years_held here) at c.loop-k-test.true in
    search rules

pub bounds-ratios-k : goal.bounds-ratios-k
bounds-ratios-k c =
    let here = (goal.at.bounds-ratios-k c).Start in
    omega (arith, (observed here).years.most, simp (years_held here) at c.loop-k-test.true, (c.loop-k.invariant c.requires.cut).first)

pub loop-k-preserved : goal.loop-k-preserved
loop-k-preserved c =
    let here = (goal.at.loop-k-preserved c).Start in
    λ cut.
    one_more_year (triangle here cut) _ _ _ (c.loop-k.invariant cut) _ _
    (simp (years_held here) at c.loop-k-test.true) (observed here).years.most
    (simp (years_held here) at c.development_year.ensures.result_value) (simp (years_held here) at c.development_year.ensures.moved_on)

pub returns : goal.returns
returns c =
    let here = (goal.at.returns c).Start in
    record { development = λ cut. all_years_made (triangle here cut) _ _ _ (c.loop-k.invariant cut) (simp (years_held here) at c.loop-k-test.false) }
