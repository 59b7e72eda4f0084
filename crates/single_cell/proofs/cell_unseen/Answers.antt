-- The accident year first, so that no sum passes 64 bits.
use borrow.Author.Rules.{rules}
use mathlib.Core.Path.{◌≡◌, sym, ◌∙◌}
use lib.IntN.{pos}
use mir.Facts.{to_z-of_z}
use Rattle.integers.proofs.MachineArithmetic.{Held}
use Rattle.method.specs.Tests.{from_to}
use Rattle.method.proofs.QuestionFacts.{YearsInRange, years_accepted}
use Rattle.single_cell.proofs.UnseenCells.{in_range_unseen, out_of_range_unseen, years_fit, first_unseen_fits}
use Rattle.single_cell.proofs.cell_unseen.Goals as goal
use Rattle.single_cell.proofs.cell_unseen.Goals.{After-from_to, Start}

years_right : (s : Start) → YearsInRange s.args.years
years_right s = years_accepted s.args.years s.requires

tested : (c : After-from_to) → from_to (pos 2) c.args.years c.args.cell.accident_year ≡ c.from_to.result
tested c =
    let i : Held c.args.cell.accident_year = search rules in
    sym (simp (to_z-of_z c.ranges.years, i) at c.from_to.ensures)

pub overflow_add-years : goal.overflow_add-years
overflow_add-years c = simp (to_z-of_z c.ranges.years) (years_fit (years_right (goal.at.overflow_add-years c).Start))

pub overflow_sub-years : goal.overflow_sub-years
overflow_sub-years c =
    let here = goal.at.overflow_sub-years c in
    let y = years_right here.Start in
    let i : Held c.args.cell.accident_year = search rules in
    simp (to_z-of_z c.ranges.years, i, to_z-of_z (years_fit y))
    (first_unseen_fits y c.args.cell.accident_year (tested here.After-from_to ∙ c.if-from_to.true))

pub returns-then-from_to : goal.returns-then-from_to
returns-then-from_to c =
    let here = goal.at.returns-then-from_to c in
    let y = years_right here.Start in
    let e = tested here.After-from_to ∙ c.if-from_to.true in
    let i : Held c.args.cell.accident_year = search rules in
    let k : Held c.args.cell.development_year = search rules in
    (simp (
      to_z-of_z c.ranges.years,
      i,
      k,
      to_z-of_z (years_fit y),
      to_z-of_z (first_unseen_fits y c.args.cell.accident_year e),
    ) at c.from_to-then-from_to.ensures)
    ∙ in_range_unseen c.args.years c.args.cell.accident_year c.args.cell.development_year e

pub returns-else-from_to : goal.returns-else-from_to
returns-else-from_to c =
    c.if-from_to.false ∙ out_of_range_unseen c.args.years c.args.cell.accident_year c.args.cell.development_year (tested (goal.at.returns-else-from_to c).After-from_to ∙ c.if-from_to.false)
