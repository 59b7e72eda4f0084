-- The call, and its verdict as a number and a place.
use Rattle.std.proofs.Common.{◌≡◌, Result, Ok, Err, refl, sym, ◌∙◌, to_z-of_z}
use Rattle.verdicts.specs.declared.verdict.Refusal.{Refusal}
use Rattle.verdicts.specs.Verdicts.{verdict_of}
use Rattle.projection.specs.declared.Movement.{Movement}
use Rattle.single_cell.specs.Answers.{cell_of}
use Rattle.juniperprow.proofs.HostVerdicts.{cell_answered}
use Rattle.juniperprow.proofs.juniperprow_single_cell.Goals as goal

verdict_is : (cell : Result Movement Refusal) → (cell_of cell).verdict ≡ verdict_of cell
verdict_is (Ok movement) = refl
verdict_is (Err refusal) = refl

pub returns : goal.returns
returns c =
    let e = simp (to_z-of_z c.ranges.years, to_z-of_z c.ranges.cut, to_z-of_z c.ranges.accident_year, to_z-of_z c.ranges.development_year)
    at c.single_cell.ensures in
    cell_answered _ _ _ (e.whole, (e.demand_1, λ a. e.of_future (sym (verdict_is c.single_cell.result) ∙ a))) c.from.result c.from.ensures
