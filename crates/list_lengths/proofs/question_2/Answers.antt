-- One range, whose end fits 64 bits because question 1 accepted.
use mathlib.Core.Path.{ap, ◌∙◌}
use native.Mathlib.Omega.{arith}
use lib.IntN.{pos, ◌-ℤ◌}
use mir.Syntax.{w64}
use mir.Val.{SFits}
use mir.Facts.{to_z-of_z}
use Rattle.integers.proofs.RingSolver.{con, ◌:-◌}
use Rattle.integers.proofs.LinearFacts.{fits_by}
use Rattle.integers.proofs.Order.{nat_abs_parts}
use Rattle.method.specs.Verdicts.{nowhere, ask}
use Rattle.method.specs.Tests.{cut_in_range}
use Rattle.method.specs.Questions.{question_2}
use Rattle.method.proofs.QuestionFacts.{years_accepted}
use Rattle.list_lengths.proofs.question_2.Goals as goal
use Rattle.list_lengths.proofs.question_2.Goals.{Start}

year_before_fits : (c : Start) → SFits w64 (c.args.years -ℤ pos 1)
year_before_fits c =
    fits_by w64 (con c.args.years :- con (pos 1)) (omega (arith, (years_accepted c.args.years c.requires).most, nat_abs_parts c.args.years))

pub overflow_sub-years : goal.overflow_sub-years
overflow_sub-years c = simp (to_z-of_z c.ranges.years) (year_before_fits (goal.at.overflow_sub-years c).Start)

pub returns : goal.returns
unfolding question_2 cut_in_range
returns c =
    let in_range = simp (to_z-of_z c.ranges.years, to_z-of_z c.ranges.cut, to_z-of_z (year_before_fits (goal.at.returns c).Start)) at c.from_to.ensures in
    c.asked.ensures ∙ ap (λ b. ask b 2 nowhere) in_range
